-- A box held as a list of sets, one for each of 256 flags.
use Rattle.std.specs.List.{IsAnyAnswer}
use Rattle.std.proofs.Common.{◌≡◌, ℕ, zero, suc, ◌<◌, ◌≤◌, Bool, true, false, cond, ltb, List, length, get_or, set, replicate, sym, refl, ◌∙◌, subst, ⊎_elim, ap, arith, rules, get_or-set_other, get_or-set_same, MatchBool}
use mathlib.Core.Path.{fun_ext}
use Rattle.std.proofs.lemmas.List.{ext_get_or, get_or_default}
use Rattle.std.proofs.lemmas.Bool.{cases_eq, cases_lt, cond-true, cond-false, lt-ltb, le-ltb, true≢false, false≢true}
use lib.Pointwise.{pointwise, pointwise_decides}
use denote.Enum.Bare.{sameb, same_true, true_same}
use Rattle.model.specs.contracts.domain.Domain.{the_type}
use Rattle.model.specs.Domains.{has}
use Rattle.model.specs.Boxes.{Box, open_box, with_set, Dead, Alive}
use Rattle.model.specs.View.{at}
use Rattle.model.specs.declared.boxes.FlagBox.{FlagBox}
use Rattle.model.specs.declared.domain.Domain.{Domain}
use Rattle.model.specs.declared.domain.Domain.TheVariants.{Empty, Open}
use Rattle.model.proofs.Cutting.{with_here, with_other}

-- the box that a list of sets means
abbrev pub of_list : List Domain → Box
of_list ds f = cond (ltb f 256) (get_or ds f Open) Open

list_below : (ds : List Domain) (f : ℕ) → f < 256 → of_list ds f ≡ get_or ds f Open
list_below ds f l = cond-true (ltb f 256) (get_or ds f Open) Open (lt-ltb f 256 l)

-- an element read at any default
pub read_at : (ds : List Domain) (f : ℕ) (d : Domain) → f < 256 → length ds ≡ 256 → get_or ds f d ≡ of_list ds f
read_at ds f d l e = get_or_default ds f d Open (omega arith) ∙ sym (list_below ds f l)

open_at : (n f : ℕ) → get_or (replicate n Open) f Open ≡ Open
open_at zero f = refl
open_at (suc n) zero = refl
open_at (suc n) (suc f) = open_at n f

either : (b : Bool) (d : Domain) → d ≡ Open → cond b d Open ≡ Open
either true d e = e
either false d e = refl

pub open_sets : (n : ℕ) → of_list (replicate n Open) ≡ open_box
open_sets n = fun_ext (λ f. either (ltb f 256) (get_or (replicate n Open) f Open) (open_at n f))

pub set_with : (ds : List Domain) (f : ℕ) (d : Domain) → f < 256 → length ds ≡ 256 → of_list (set ds f d) ≡ with_set (of_list ds) f d
set_with ds f d l e = fun_ext (λ g. ⊎_elim
    (λ q. subst (λ y. of_list (set ds f d) y ≡ with_set (of_list ds) f d y) (sym q) (list_below (set ds f d) f l ∙ (get_or-set_same ds f d Open (omega arith) ∙ sym (with_here (of_list ds) f d))))
    (λ n. subst (λ x. cond (ltb g 256) x Open ≡ with_set (of_list ds) f d g) (sym (get_or-set_other ds f g d Open n)) (sym (with_other (of_list ds) f d g n)))
    (cases_eq g f))

-- a number past the flags counts as open
pub past_open : (b : FlagBox) (f : ℕ) → 256 ≤ f → at b f ≡ Open
unfolding at
past_open b f l = cond-false (ltb f 256) (get_or b.sets f Open) Open (le-ltb f 256 l)

open_empty : Open ≡ Empty → ⊥
open_empty e = false≢true (subst (λ d. has d true ≡ true) e refl)

-- what a search for an empty set among 256 answers
abbrev pub Finds : List Domain → Bool → Type 0
Finds ds r = MatchBool r ((k : ℕ) × (k < 256) × (get_or ds k Open ≡ Empty)) ((k : ℕ) → k < 256 → get_or ds k Open ≡ Empty → ⊥)

-- so a search by a test that finds the empty set alone answers that
module _ (test : Domain → Bool) (finds : (d : Domain) → test d ≡ true → d ≡ Empty) (hits : test Empty ≡ true) where
  pub found : (ds : List Domain) (r : Bool) → length ds ≡ 256 → IsAnyAnswer (λ d t. test d ≡ t) ds r → Finds ds r
  found ds true l (k, m, h) = (k, omega (arith, l), finds (get_or ds k Open) (h Open))
  found ds false l h = λ k m e. true≢false (sym hits ∙ (ap test (sym e) ∙ h k Open (omega arith) (omega (arith, l))))

-- a box is dead where a flag that it holds is empty, and alive where none is
pub dead_or_alive : (b : FlagBox) (r : Bool) → Finds b.sets r → (r ≡ true → Dead (at b)) × (r ≡ false → Alive (at b))
unfolding at
dead_or_alive b true (k, m, h) = ((λ _. (k, list_below b.sets k m ∙ h)), (λ e. absurd (true≢false e)))
dead_or_alive b false h = (
  (λ e. absurd (false≢true e)),
  (λ _ f e. ⊎_elim (λ l. h f l (sym (list_below b.sets f l) ∙ e)) (λ l. open_empty (sym (past_open b f l) ∙ e)) (cases_lt f 256)),
)

-- what `==` answers at two boxes: whether they mean the same
abbrev equal : FlagBox → FlagBox → Bool
equal a b = pointwise (sameb the_type) a.sets b.sets

decides : (x y : Domain) → (sameb the_type x y ≡ true → x ≡ y) × (x ≡ y → sameb the_type x y ≡ true)
decides x y = (same_true the_type (search rules) x y, true_same the_type x y)

pub equal_same : (a b : FlagBox) → equal a b ≡ true → at a ≡ at b
unfolding at
equal_same a b e = ap of_list ((pointwise_decides decides a.sets b.sets).0 e)

pub same_equal : (a b : FlagBox) → at a ≡ at b → equal a b ≡ true
unfolding at
same_equal a b e =
    let same : (f : ℕ) → f < length a.sets → get_or a.sets f Open ≡ get_or b.sets f Open = λ f l.
    let here : f < 256 = let w = a.whole in omega arith in
    read_at a.sets f Open here a.whole ∙ ap (λ c. c f) e ∙ sym (read_at b.sets f Open here b.whole) in
    (pointwise_decides decides a.sets b.sets).1 (ext_get_or Open a.sets b.sets (a.whole ∙ sym b.whole) same)
