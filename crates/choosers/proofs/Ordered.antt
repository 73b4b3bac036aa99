-- Why the choosers' picks come in the order that their rules say.
use Rattle.std.specs.Prelude.{◌≡◌, ℕ, min, Bool, true, false, ◌↔◌, List, Some, None, Option, refl}
use Rattle.std.proofs.Common.{sym, ap, subst, inl, inr, arith}
use Rattle.std.proofs.lemmas.Bool.{cases_eq}
use Rattle.model.specs.Boxes.{Box}
use Rattle.model.specs.Picks.{Choosable}
use Rattle.choosers.specs.Choices.{lowest, highest, tried}
use Rattle.choosers.specs.Orders.{NoneChoosable, ComesFirst, RanksFirst, RisingOrder, RankedOrder}
use Rattle.choosers.specs.Found.{After}
use Rattle.choosers.specs.Standing.{Finds, can_first, lowest_finds, can_rank, highest_finds}

module _ (b : Box) (n : ℕ) (First : ℕ → Type 0) (can : (f : ℕ) → First f → Choosable b n f) where
  finds_none : (v : Bool) (r : Option ℕ) → Finds b n First can r → (tried v r ≡ None) ↔ NoneChoosable b n
  finds_none v None h = ((λ _. h), λ _. refl)
  finds_none v (Some f) h = ((λ e. cc), λ p. absurd (p f (can f h)))

  finds_picked : ((f g : ℕ) → First f → First g → f ≡ g) → (v : Bool) (r : Option ℕ) → Finds b n First can r → (f : ℕ) (w : Bool) → (tried v r ≡ Some (f, w)) ↔ ((w ≡ v) × First f)
  finds_picked one v None h f w = ((λ e. cc), λ p. absurd (h f (can f p.1)))
  finds_picked one v (Some g) h f w = (
    (λ e. let i : ◌≡◌ {A = ℕ × Bool} (g, v) (f, w) = cc in (sym (ap (λ (x : ℕ × Bool). x.1) i), subst First (ap (λ (x : ℕ × Bool). x.0) i) h)),
    λ p. let i : g ≡ f = one g f h p.1 in let j : w ≡ v = p.0 in cc,
  )

module _ (b : Box) (n : ℕ) where
  one_first : (f g : ℕ) → ComesFirst b n f → ComesFirst b n g → f ≡ g
  one_first f g p q = let x = p.1 g q.0 in let y = q.1 f p.0 in omega arith

  module _ (ranks : List ℕ) where
    one_way : (f g : ℕ) → After b ranks f g → After b ranks g f → ⊥
    one_way f g (inl x) (inl y) = omega arith
    one_way f g (inl x) (inr y) = omega arith
    one_way f g (inr x) (inl y) = omega arith
    one_way f g (inr x) (inr y) = omega arith

    one_rank : (f g : ℕ) → RanksFirst ranks b n f → RanksFirst ranks b n g → f ≡ g
    one_rank f g p q =
        elim (cases_eq f g) [
          | inl e ↦ e
          | inr d ↦ absurd (one_way f g (p.1 g q.0 (λ e. d (sym e))) (q.1 f p.0 d))
        ]

pub rising_order : RisingOrder
rising_order = record {
  picked = λ b n. finds_picked b n (ComesFirst b n) (can_first b n) (one_first b n) false (lowest b (min n 256)) (lowest_finds b n);
  none = λ b n. finds_none b n (ComesFirst b n) (can_first b n) false (lowest b (min n 256)) (lowest_finds b n);
}

pub ranked_order : RankedOrder
ranked_order = record {
  picked = λ ranks b n. finds_picked b n (RanksFirst ranks b n) (can_rank b n ranks) (one_rank b n ranks) true (highest ranks b (min n 256)) (highest_finds b n ranks);
  none = λ ranks b n. finds_none b n (RanksFirst ranks b n) (can_rank b n ranks) true (highest ranks b (min n 256)) (highest_finds b n ranks);
}
