-- Why the first lane is served first.
use Rattle.std.proofs.Common.{◌≡◌, ℕ, zero, suc, ◌<◌, Bool, true, false, cond, not, ◌&&◌, ◌||◌, eqb, ltb, Some, None, Option, sym, refl, ap, ◌∙◌, inl, inr, arith}
use Rattle.std.proofs.lemmas.Bool.{and_parts, or_left, or_right, or_from, lt-ltb, not_from_true, and_left, both_ways, cases_eq}
use Rattle.std.proofs.lemmas.Grind.{common_steps}
use Rattle.std.proofs.lemmas.Bool.Decides.{nat_tests}
use Rattle.model.specs.Waiting.{Bounded, NoneWaits, Takes}
use Rattle.schedulers.specs.Lanes.{First, Second, in_lane, some_below, lane_served, lane_answered, in_lanes, LaneTakes}
use Rattle.schedulers.specs.declared.lanes.Lanes.{Lanes}

some_waits : (n : ℕ) (waits : ℕ → Bool) (k : ℕ) → k < n → waits k ≡ true → some_below n waits ≡ true
unfolding some_below
some_waits zero waits k l w = absurd (omega arith)
some_waits (suc n) waits k l w =
    elim (cases_eq k n) [
      | inl e ↦ or_left (waits n) _ (ap waits (sym e) ∙ w)
      | inr d ↦ or_right (waits n) _ (some_waits n waits k (omega arith) w)
    ]

none_waits : (n : ℕ) (waits : ℕ → Bool) → ((k : ℕ) → k < n → waits k ≡ false) → some_below n waits ≡ false
unfolding some_below
none_waits zero waits h = refl
none_waits (suc n) waits h = or_from (waits n) _ (h n (omega arith)) (none_waits n waits (λ k l. h k (omega arith)))

-- one of two sets by a test, as the two sets cut down to it
either : (t x y : Bool) → cond t x y ≡ ((t && x) || (not t && y))
either t x y = grind arith

-- what waits below a boundary, and what from there on
abbrev both : ℕ → (ℕ → Bool) → (ℕ → Bool) → ℕ → Bool
both b first second k = cond (ltb k b) (first k) (second k)

module _ (b : ℕ) (first second : ℕ → Bool) where
  apart : (k : ℕ) → both b first second k ≡ (in_lane b First first k || in_lane b Second second k)
  apart k = either (ltb k b) (first k) (second k)

  -- the answer is of the first lane
  module _ (row : ℕ) (waits : in_lane b First first row ≡ true) where
    low : ltb row b ≡ true
    low = (and_parts (ltb row b) (first row) waits).0

    lane_first : lane_answered b (Some row) ≡ lane_served b (both b first second)
    lane_first = grind (arith, common_steps, nat_tests, waits, apart row, some_waits b (both b first second) row)

  -- none of the first lane waits
  module _ (none : NoneWaits (in_lane b First first)) where
    only : (k : ℕ) → both b first second k ≡ in_lane b Second second k
    only k = apart k ∙ ap (λ t. t || in_lane b Second second k) (none k)

    none_below : some_below b (both b first second) ≡ false
    none_below = none_waits b (both b first second) (λ k l. only k ∙ and_left _ _ (not_from_true _ (lt-ltb k b l)))

    -- then a take from the second lane is one from both
    served_second : (first' second' : ℕ → Bool) → ((k : ℕ) → in_lane b First first' k ≡ in_lane b First first k) → (r : Option ℕ) → Takes (in_lane b Second second) (in_lane b Second second') r → Takes (both b first second) (both b first' second') r
    served_second first' second' kept r t = at r t
      where
        only' : (k : ℕ) → both b first' second' k ≡ in_lane b Second second' k
        only' k = either (ltb k b) (first' k) (second' k) ∙ ap (λ t. t || in_lane b Second second' k) (kept k ∙ none k)

        at : (r : Option ℕ) → Takes (in_lane b Second second) (in_lane b Second second') r → Takes (both b first second) (both b first' second') r
        at None (h, e) = ((λ k. only k ∙ h k), (λ k. only' k ∙ e k ∙ sym (only k)))
        at (Some row) (w, e) = (only row ∙ w, λ k. only' k ∙ e k ∙ sym (ap (λ t. not (eqb k row) && t) (only k)))

    lane_second : Bounded second → (second' : ℕ → Bool) (r : Option ℕ) → Takes (in_lane b Second second) (in_lane b Second second') r → lane_answered b r ≡ lane_served b (both b first second)
    lane_second l second' None (h, e) = grind (arith, common_steps, nat_tests, none_below, none_waits 1024 (both b first second) (λ k i. only k ∙ h k))
    lane_second l second' (Some row) (w, e) = grind (arith, common_steps, nat_tests, w, none_below, l row, some_waits 1024 (both b first second) row (l row (and_parts (not (ltb row b)) (second row) w).1) (only row ∙ w))

-- a take that turns to the second lane only where none of the first waits
module _ {A B : Type 0} (first : A → ℕ → Bool) (second : B → ℕ → Bool) (before : Lanes A B) (after_first : A) where
  pub of_first : (row : ℕ) → Takes (in_lane before.boundary First (first before.first)) (in_lane before.boundary First (first after_first)) (Some row) → LaneTakes first second before (record { first = after_first; second = before.second; boundary = before.boundary }) (Some row)
  of_first row t = record { boundary = refl; lane = lane_first before.boundary _ _ row t.0; second_stays = λ _. refl }

  module _ (after_second : B) (f : Takes (in_lane before.boundary First (first before.first)) (in_lane before.boundary First (first after_first)) None) (r : Option ℕ) (t : Takes (in_lane before.boundary Second (second before.second)) (in_lane before.boundary Second (second after_second)) r) where
    pub takes_second : Takes (in_lanes first second before) (in_lanes first second (record { first = after_first; second = after_second; boundary = before.boundary })) r
    takes_second = served_second before.boundary _ _ f.0 _ _ f.1 r t

    pub of_second : Bounded (second before.second) → LaneTakes first second before (record { first = after_first; second = after_second; boundary = before.boundary }) r
    of_second l = record {
      boundary = refl;
      lane = lane_second before.boundary _ _ f.0 l _ r t;
      second_stays = λ y. absurd (both_ways _ (none_below before.boundary _ _ f.0) y);
    }
