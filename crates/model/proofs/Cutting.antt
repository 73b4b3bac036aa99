-- Boxes under facts, and a box cut to one fact more.
use Rattle.std.proofs.Common.{◌≡◌, ℕ, Bool, true, false, cond, not, ◌&&◌, eqb, ◌⊎◌, ◌↔◌, length, sym, refl, ◌∙◌, subst, inl, inr, ⊎_elim, arith}
use mathlib.Core.Bool.{beq}
use Rattle.std.proofs.lemmas.List.{get_or_default}
use Rattle.std.proofs.lemmas.Bool.{cases_Bool, both_ways, or_cases, or_left, or_right, and_parts, and_from, eqb-true, eq-eqb, ne_eqb, not-true, not_from_false, false≢true, true≢false, cond-true, cond-false}
use Rattle.model.specs.Domains.{has, Has, cut_set}
use Rattle.model.specs.Boxes.{Box, with_set, ◌⊆◌}
use Rattle.model.specs.Facts.{Facts, told, Within, facts_box, cut}
use Rattle.model.specs.States.{State, value, Agrees, Lies}
use Rattle.model.specs.Laws.{LargestFrom, LargestTold}
use Rattle.model.specs.declared.domain.Domain.{Domain}
use Rattle.model.proofs.Sets.{has-set_of, has-cut, cut_has}
use Rattle.model.proofs.Revise.{beq_true, beq_refl}

-- a value stands in the box of the facts unless the other value is a fact
has-facts_box : (held : Facts) (f : ℕ) (w : Bool) → has (facts_box held f) w ≡ not (held f (not w))
has-facts_box held f true = has-set_of (not (held f true)) (not (held f false)) true
has-facts_box held f false = has-set_of (not (held f true)) (not (held f false)) false

not_self : (w : Bool) → w ≡ not w → ⊥
not_self true e = true≢false e
not_self false e = false≢true e

equal_or_not : (w v : Bool) → (w ≡ v) ⊎ (v ≡ not w)
equal_or_not true true = inl refl
equal_or_not true false = inr refl
equal_or_not false true = inr refl
equal_or_not false false = inl refl

within_in : (held : Facts) (b : Box) → Within held b → b ⊆ facts_box held
within_in held b p f w h =
    has-facts_box held f w ∙ ⊎_elim (λ e. absurd (not_self w (p f (not w) e w h))) (not_from_false (held f (not w))) (cases_Bool (held f (not w)))

in_within : (held : Facts) (b : Box) → b ⊆ facts_box held → Within held b
in_within held b p f v e w h = ⊎_elim
    (λ q. q)
    (λ q. absurd (both_ways (held f (not w)) (not-true (held f (not w)) (sym (has-facts_box held f w) ∙ p f w h)) (subst (λ x. held f x ≡ true) q e)))
    (equal_or_not w v)

pub largest_from : LargestFrom
largest_from rows held b = (
  (λ l. record { consistent = l.consistent; within = within_in held b l.within; greatest = λ c k p. l.greatest c k (in_within held c p) }),
  (λ l. record { consistent = l.consistent; within = in_within held b l.within; greatest = λ c k p. l.greatest c k (within_in held c p) }),
)

-- a state of n flags that agrees with the facts lies in their box
pub facts_lies : (n : ℕ) (held : Facts) (s : State) → length s ≡ n → Agrees held s → Lies n (value s) (facts_box held)
facts_lies n held s e a f l =
    has-facts_box held f (value s f) ∙ ⊎_elim
    (λ h. absurd (not_self (value s f) (get_or_default s f false (not (not (value s f))) (omega arith) ∙ a f (not (value s f)) h)))
    (not_from_false (held f (not (value s f))))
    (cases_Bool (held f (not (value s f))))

-- a box with another set at a flag
pub with_here : (b : Box) (f : ℕ) (d : Domain) → with_set b f d f ≡ d
with_here b f d = cond-true (eqb f f) d (b f) (eq-eqb f f refl)

pub with_other : (b : Box) (f : ℕ) (d : Domain) (g : ℕ) → (g ≡ f → ⊥) → with_set b f d g ≡ b g
with_other b f d g n = cond-false (eqb g f) d (b g) (ne_eqb g f n)

-- what lies inside a cut box
pub cut_in : (b c : Box) (f : ℕ) (v : Bool) → c ⊆ cut b f v → (c ⊆ b) × ((w : Bool) → Has (c f) w → w ≡ v)
cut_in b c f v p = (
  (λ g w h. ⊎_elim
      (λ e. subst (λ y. Has (b y) w) (sym (eqb-true g f e)) (has-cut (b f) v w (subst (λ x. Has (cond x (cut_set (b f) v) (b g)) w) e (p g w h))).1)
      (λ e. subst (λ x. Has (cond x (cut_set (b f) v) (b g)) w) e (p g w h))
      (cases_Bool (eqb g f))),
  (λ w h. (has-cut (b f) v w (subst (λ d. Has d w) (with_here b f (cut_set (b f) v)) (p f w h))).0),
)

pub in_cut : (b c : Box) (f : ℕ) (v : Bool) → c ⊆ b → ((w : Bool) → Has (c f) w → w ≡ v) → c ⊆ cut b f v
in_cut b c f v p q g w h = ⊎_elim
    (λ e.
    let s : g ≡ f = eqb-true g f e in
    let k : Has (c f) w = subst (λ y. Has (c y) w) s h in
    subst (λ x. Has (cond x (cut_set (b f) v) (b g)) w) (sym e) (cut_has (b f) v w (q w k) (p f w k)))
    (λ e. subst (λ x. Has (cond x (cut_set (b f) v) (b g)) w) (sym e) (p g w h))
    (cases_Bool (eqb g f))

told_within : (held : Facts) (f : ℕ) (v : Bool) (c : Box) → Within (told held f v) c ↔ (Within held c × ((w : Bool) → Has (c f) w → w ≡ v))
told_within held f v c = (
  (λ p. ((λ g u e. p g u (or_right (eqb g f && beq u v) (held g u) e)), p f v (or_left (eqb f f && beq v v) (held f v) (and_from (eqb f f) (beq v v) (eq-eqb f f refl) (beq_refl v))))),
  (λ p g u e w h. ⊎_elim
      (λ x. let y = and_parts (eqb g f) (beq u v) x in p.1 w (subst (λ z. Has (c z) w) (eqb-true g f y.0) h) ∙ sym (beq_true u v y.1))
      (λ x. p.0 g u x w h)
      (or_cases (eqb g f && beq u v) (held g u) e)),
)

pub telling : LargestTold
telling rows held f v b d l = (
  (λ m.
      let t = (told_within held f v d).0 m.within in
      record {
        consistent = m.consistent;
        within = in_cut b d f v (l.greatest d m.consistent t.0) t.1;
        greatest = λ c k p. let r = cut_in b c f v p in m.greatest c k ((told_within held f v c).1 ((λ g u e w h. l.within g u e w (r.0 g w h)), r.1));
      }),
  (λ m.
      let r = cut_in b d f v m.within in
      record {
        consistent = m.consistent;
        within = (told_within held f v d).1 ((λ g u e w h. l.within g u e w (r.0 g w h)), r.1);
        greatest = λ c k p. let t = (told_within held f v c).0 p in m.greatest c k (in_cut b c f v (l.greatest c k t.0) t.1);
      }),
)
