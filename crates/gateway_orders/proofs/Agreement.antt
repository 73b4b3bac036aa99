-- Why all orders come to the same box.
use Rattle.std.proofs.Common.{◌≡◌, ℕ, ◌<◌, Bool, false, not, List, sym, ap, ◌∙◌, subst, ⊎_elim, arith, rules}
use mathlib.Core.Path.{fun_ext}
use Rattle.std.proofs.lemmas.Bool.{cases_eq, cases_lt, not-false}
use denote.Enum.Bare.{sameb, same_true}
use Rattle.model.specs.contracts.domain.Domain.{the_type}
use Rattle.model.specs.Rows.{Row}
use Rattle.model.specs.Boxes as boxes
use Rattle.model.specs.Boxes.{Box}
use Rattle.model.specs.Facts.{Facts, LargestUnder, told, facts_box}
use Rattle.model.specs.View.{at}
use Rattle.model.specs.declared.boxes.FlagBox.{FlagBox}
use Rattle.model.specs.declared.domain.Domain.{Domain}
use Rattle.model.proofs.Holding.{past_open}
use Rattle.model.proofs.Stand.{box_laws}
use Rattle.narrowing.specs.declared.Verdict.{Verdict}
use Rattle.narrowing.specs.declared.Verdict.TheVariants.{Alive, Dead}
use Rattle.stories.specs.Telling.{Tells}
use Rattle.gateway_orders.specs.Orders.{ToldAll}
use Rattle.gateway_orders.specs.Telling.{Told}
use Rattle.gateway_orders.specs.declared.orders.Boxes.{Boxes}

-- under the same facts the largest box is one
pub under_unique : (rows : List Row) (held : Facts) (a b : Box) → LargestUnder rows held a → LargestUnder rows held b → a ≡ b
under_unique rows held a b l m = box_laws.unique rows (facts_box held) a b ((box_laws.from rows held a).0 l) ((box_laws.from rows held b).0 m)

-- it is alive or dead, so that the same fact told twice comes to the same
tells_agree : (x y : Verdict) (rows : List Row) (held : Facts) (before a b : Box) → Tells x rows held before a → Tells y rows held before b → a ≡ b
tells_agree Alive Alive rows held before a b t u = under_unique rows held a b t.0 u.0
tells_agree Dead Dead rows held before a b t u = t.1 ∙ sym u.1
tells_agree Alive Dead rows held before a b t u =
    let e = under_unique rows held a u.0.0 t.0 u.0.1 in absurd (t.1 u.0.2.0 (ap (λ c. c u.0.2.0) e ∙ u.0.2.1))
tells_agree Dead Alive rows held before a b t u =
    let e = under_unique rows held b t.0.0 u.0 t.0.1 in absurd (u.1 t.0.2.0 (ap (λ c. c t.0.2.0) e ∙ t.0.2.1))

-- from the same box, under the same facts
told_agree : (x y : Verdict) (rows : List Row) (held : Facts) (f : ℕ) (v : Bool) (before other a b : Box) → before ≡ other → LargestUnder rows held before → boxes.Alive before
    → Tells x rows (told held f v) before a → Told rows other f v b y → a ≡ b
told_agree x y rows held f v before other a b e l n t u =
    tells_agree x y rows (told held f v) before a b t
    (subst (λ c. Tells y rows (told held f v) c b) (sym e) (u held (subst (LargestUnder rows held) e l) (subst boxes.Alive e n)))

pub told_all : (rows : List Row) (before after : Boxes) (f : ℕ) (v : Bool) (x y z : Verdict)
    → Told rows (at before.ring) f v (at after.ring) x → Told rows (at before.queue) f v (at after.queue) y → Told rows (at before.lanes) f v (at after.lanes) z
    → ToldAll rows before f v after x
told_all rows before after f v x y z r q s held l a g =
    let t = r held l a in (
      t,
      (
        told_agree x y rows held f v _ _ _ _ g.0 l a t q,
        told_agree x z rows held f v _ _ _ _ g.1 l a t s,
      ),
    )

-- boxes that are the same at every flag up to the last one are the same
pub same_all : (a b : FlagBox) (n : ℕ) (x y : Domain) → ((f : ℕ) → f < n → at a f ≡ at b f) → x ≡ at a n → y ≡ at b n → false ≡ not (sameb the_type x y) → n ≡ 255 → at a ≡ at b
same_all a b n x y so_far p q h l =
    let e : x ≡ y = same_true the_type (search rules) x y (not-false (sameb the_type x y) (sym h)) in
    fun_ext (λ f. ⊎_elim
    (λ k. so_far f k)
    (λ k. ⊎_elim (λ i. ap (at a) i ∙ sym p ∙ e ∙ q ∙ ap (at b) (sym i)) (λ i. past_open a f (omega arith) ∙ sym (past_open b f (omega arith))) (cases_eq f n))
    (cases_lt f n))
