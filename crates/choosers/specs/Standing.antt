-- Why the choosers' picks are lawful.
use Rattle.std.specs.Prelude.{◌≡◌, ℕ, ◌<◌, min, Bool, true, false, List, Some, None, Option}
use Rattle.std.proofs.Common.{sym, subst, inl, inr, arith}
use Rattle.std.proofs.lemmas.Bool.{cases_lt}
use Rattle.model.specs.Boxes.{Box}
use Rattle.model.specs.Picks.{Choosable, Lawful}
use Rattle.model.specs.declared.domain.Domain.TheVariants.{Open}
use Rattle.choosers.specs.Choices.{lowest, highest, tried, rising, ranked}
use Rattle.choosers.specs.Orders.{NoneChoosable, ComesFirst, RanksFirst}
use Rattle.choosers.specs.Found.{NoneBelow, Low, low, High, high}

-- a flag that is first in some order, or none where no flag can be chosen
module _ (b : Box) (n : ℕ) (First : ℕ → Type 0) (can : (f : ℕ) → First f → Choosable b n f) where
  abbrev pub Finds : Option ℕ → Type 0
  Finds None = NoneChoosable b n
  Finds (Some f) = First f

  finds_lawful : (v : Bool) (r : Option ℕ) → Finds r → Lawful b n (tried v r)
  finds_lawful v None h = h
  finds_lawful v (Some f) h = can f h

module _ (b : Box) (n : ℕ) where
  -- an open flag among those that count can be chosen
  choosable : (f : ℕ) → f < min n 256 → b f ≡ Open → Choosable b n f
  choosable f l o = record { below = omega arith; held = omega arith; is_open = o }

  counts : (f : ℕ) → Choosable b n f → f < min n 256
  counts f h = let l = h.below in let m = h.held in omega arith

  none_choosable : NoneBelow b (min n 256) → NoneChoosable b n
  none_choosable p f h = p f (counts f h) h.is_open

  pub can_first : (f : ℕ) → ComesFirst b n f → Choosable b n f
  can_first f h = h.0

  low_finds : (r : Option ℕ) → Low b (min n 256) r → Finds b n (ComesFirst b n) can_first r
  low_finds None h = none_choosable h
  low_finds (Some f) (l, o, p) =
      (choosable f l o, λ g h. elim (cases_lt g f) [ inl z ↦ absurd (p g z h.is_open) | inr z ↦ z ])

  pub lowest_finds : Finds b n (ComesFirst b n) can_first (lowest b (min n 256))
  lowest_finds = low_finds (lowest b (min n 256)) (low b (min n 256))

  pub rising_lawful : (r : Option (ℕ × Bool)) → r ≡ rising b n → Lawful b n r
  rising_lawful r e = subst (Lawful b n) (sym e) (finds_lawful b n (ComesFirst b n) can_first false (lowest b (min n 256)) lowest_finds)

  module _ (ranks : List ℕ) where
    pub can_rank : (f : ℕ) → RanksFirst ranks b n f → Choosable b n f
    can_rank f h = h.0

    high_finds : (r : Option ℕ) → High b ranks (min n 256) r → Finds b n (RanksFirst ranks b n) can_rank r
    high_finds None h = none_choosable h
    high_finds (Some f) (l, o, p) = (choosable f l o, λ g h d. p g (counts g h) h.is_open d)

    pub highest_finds : Finds b n (RanksFirst ranks b n) can_rank (highest ranks b (min n 256))
    highest_finds = high_finds (highest ranks b (min n 256)) (high b ranks (min n 256))

    pub ranked_lawful : (r : Option (ℕ × Bool)) → r ≡ ranked ranks b n → Lawful b n r
    ranked_lawful r e =
        subst (Lawful b n) (sym e) (finds_lawful b n (RanksFirst ranks b n) can_rank true (highest ranks b (min n 256)) highest_finds)
