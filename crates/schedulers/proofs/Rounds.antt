-- Why the number that a ring seeks is the one that comes first, going round.
use Rattle.std.proofs.Common.{◌≡◌, ℕ, zero, suc, ◌+◌, ◌-◌, ◌<◌, ◌≤◌, Bool, true, false, ◌⊎◌, List, Some, None, Option, sym, refl, ap, ◌∙◌, subst, inl, inr, mod-eq_of_lt, arith, min, MatchOption}
use Rattle.std.proofs.lemmas.Option.{none-some}
use Rattle.std.proofs.lemmas.Bool.{cases_Bool, cases_lt, cases_eq, cond-true, cond-false}
use Rattle.model.specs.Waiting.{Bounded, NoneWaits}
use Rattle.schedulers.specs.Marks.{marked}
use Rattle.schedulers.specs.Rings.{after, seek, Leads, Due, ComesFirst, InOrder, RingOrder}

-- what is first on a stretch of a ring, where none waits from the bound on
pub walked : (marks : List Bool) (bound from to : ℕ) → ((k : ℕ) → bound ≤ k → marked marks k ≡ false) → (r : Option ℕ) → MatchOption r ((k : ℕ) → from ≤ k → k < min to bound → marked marks k ≡ false) (λ i. (from ≤ i) × (i < min to bound) × (marked marks i ≡ true) × ((k : ℕ) → from ≤ k → k < i → marked marks k ≡ false)) → MatchOption r ((k : ℕ) → from ≤ k → k < to → marked marks k ≡ false) (λ k. Leads (marked marks) from to k)
walked marks bound from to quiet None h = λ k a b. elim (cases_lt k bound) [ inl l ↦ h k a (omega arith) | inr g ↦ quiet k g ]
walked marks bound from to quiet (Some i) (a, b, w, h) = record { on = a; below = omega arith; waiting = w; first = h }

module _ (waits : ℕ → Bool) where
  -- a waiting number is found where the walk starts
  here : (k rest : ℕ) → waits k ≡ true → seek waits k (suc rest) ≡ Some k
  unfolding seek
  here k rest w = cond-true (waits k) _ _ w

  -- one that does not wait is passed
  step : (k rest : ℕ) → waits k ≡ false → seek waits k (suc rest) ≡ seek waits (after k) rest
  unfolding seek
  step k rest w = cond-false (waits k) _ _ w

  -- a stretch of numbers that do not wait is passed
  pass : (count start rest : ℕ) → start + count < 1024 → ((j : ℕ) → start ≤ j → j < start + count → waits j ≡ false) → seek waits start (count + rest) ≡ seek waits (start + count) rest
  pass zero start rest l h =
      let a : zero + rest ≡ rest = omega arith in
      let b : start ≡ start + zero = omega arith in
      ap (seek waits start) a ∙ ap (λ s. seek waits s rest) b
  pass (suc count) start rest l h =
      let a : suc count + rest ≡ suc (count + rest) = omega arith in
      let b : after start ≡ start + 1 = mod-eq_of_lt (omega arith) in
      let e : (start + 1) + count ≡ start + suc count = omega arith in
      ap (seek waits start) a
      ∙ step start (count + rest) (h start (omega arith) (omega arith))
      ∙ ap (λ s. seek waits s (count + rest)) b
      ∙ pass count (start + 1) rest (omega arith) (λ j p q. h j (omega arith) (omega arith))
      ∙ ap (λ s. seek waits s rest) e

  -- none waits up to the end, so the walk goes on at 0
  round : (start : ℕ) → start < 1024 → ((j : ℕ) → start ≤ j → j < 1024 → waits j ≡ false) → seek waits start 1024 ≡ seek waits 0 start
  round start l h =
      let a : 1024 ≡ (1023 - start) + suc start = omega arith in
      let b : start + (1023 - start) ≡ 1023 = omega arith in
      ap (seek waits start) a
      ∙ pass (1023 - start) start (suc start) (omega arith) (λ j p q. h j p (omega arith))
      ∙ ap (λ s. seek waits s (suc start)) b
      ∙ step 1023 start (h 1023 (omega arith) (omega arith))

  -- the first waiting number of a stretch is found
  reach : (start count k : ℕ) → count ≤ 1024 → Leads waits start (start + count) k → k < 1024 → seek waits start count ≡ Some k
  reach start count k c h l =
      let a : count ≡ (k - start) + suc (count - suc (k - start)) = omega (arith, h.on, h.below) in
      let b : start + (k - start) ≡ k = omega (arith, h.on) in
      ap (seek waits start) a
      ∙ pass (k - start) start (suc (count - suc (k - start))) (omega (arith, h.on)) (λ j p q. h.first j p (omega (arith, h.on)))
      ∙ ap (λ s. seek waits s (suc (count - suc (k - start)))) b
      ∙ here k (count - suc (k - start)) h.waiting

  -- where none waits none is found
  missed : NoneWaits waits → (count start : ℕ) → seek waits start count ≡ None
  unfolding seek
  missed h zero start = refl
  missed h (suc count) start = cond-false (waits start) _ _ (h start) ∙ missed h count (after start)

  -- the waiting number that comes first is the one sought
  pub sought : (start k : ℕ) → start < 1024 → k < 1024 → waits k ≡ true → ComesFirst waits start k → seek waits start 1024 ≡ Some k
  sought start k s l w (inl (a, h)) = reach start 1024 k (omega arith) (record { on = a; below = omega arith; waiting = w; first = h }) l
  sought start k s l w (inr (a, past, h)) =
      round start s (λ j p q. past j p)
      ∙ reach 0 start k (omega arith) (record { on = omega arith; below = omega arith; waiting = w; first = λ j p q. h j q }) l

  -- a number at or past 1,024 does not wait
  outside : Bounded waits → (j : ℕ) → 1024 ≤ j → waits j ≡ false
  outside b j h = elim (cases_Bool (waits j)) [ inl w ↦ absurd (let l : j < 1024 = b j w in omega arith) | inr w ↦ w ]

  -- in a stretch of numbers none waits, or one is the first that waits
  least : (count from : ℕ) → ((j : ℕ) → from ≤ j → j < from + count → waits j ≡ false) ⊎ ((k : ℕ) × Leads waits from (from + count) k)
  least zero from = inl (λ j p q. absurd (omega arith))
  least (suc count) from =
      elim (least count from) [
        | inr (k, h) ↦ inr (k, record { on = h.on; below = omega (arith, h.below); waiting = h.waiting; first = h.first })
        | inl h ↦ elim (cases_Bool (waits (from + count))) [
          | inl w ↦ inr (from + count, record { on = omega arith; below = omega arith; waiting = w; first = h })
          | inr w ↦ inl (λ j p q. elim (cases_eq j (from + count)) [ inl e ↦ ap waits e ∙ w | inr d ↦ h j p (omega arith) ])
        ]
      ]

  module _ (start : ℕ) (s : start < 1024) (b : Bounded waits) where
    -- from a place on none waits up to the end, so none waits past it
    past : ((j : ℕ) → start ≤ j → j < 1024 → waits j ≡ false) → (j : ℕ) → start ≤ j → waits j ≡ false
    past h j p = elim (cases_lt j 1024) [ inl l ↦ h j p l | inr g ↦ outside b j g ]

    -- the first number of the stretch up to the end is the next one
    pub due_ahead : (k : ℕ) → Leads waits start 1024 k → Due waits start (Some k)
    due_ahead k h = (sym (sought start k s h.below h.waiting (inl (h.on, h.first))), h.waiting, h.below)

    -- where none waits there, the first number of the stretch from 0 is the next one
    pub due_round : ((j : ℕ) → start ≤ j → j < 1024 → waits j ≡ false) → (r : Option ℕ) → MatchOption r ((j : ℕ) → 0 ≤ j → j < start → waits j ≡ false) (λ k. Leads waits 0 start k) → Due waits start r
    due_round h None e =
        let none : NoneWaits waits = λ j. elim (cases_lt j start) [ inl l ↦ e j (omega arith) l | inr g ↦ past h j g ] in
        (sym (missed none 1024 start), none)
    due_round h (Some k) e =
        let l : k < 1024 = omega (arith, e.below) in
        (sym (sought start k s l e.waiting (inr (e.below, past h, λ j q. e.first j (omega arith) q))), e.waiting, l)

    -- the stretch up to the end, or else the stretch from 0
    pub due_in_turn : {FromZero : Type 0} (ahead r : Option ℕ) → MatchOption ahead ((j : ℕ) → start ≤ j → j < 1024 → waits j ≡ false) (λ k. Leads waits start 1024 k) → MatchOption ahead FromZero (λ k. r ≡ Some k) → (FromZero → MatchOption r ((j : ℕ) → 0 ≤ j → j < start → waits j ≡ false) (λ k. Leads waits 0 start k)) → Due waits start r
    due_in_turn None r h p turns = due_round h r (turns p)
    due_in_turn (Some k) r h e turns = subst (Due waits start) (sym e) (due_ahead k h)

    -- none waits, or one comes first
    one_comes_first : NoneWaits waits ⊎ ((k : ℕ) × (waits k ≡ true) × ComesFirst waits start k)
    one_comes_first =
        elim (least (1024 - start) start) [
          | inr (k, h) ↦ inr (k, h.waiting, inl (h.on, h.first))
          | inl h ↦ (let ahead : (j : ℕ) → start ≤ j → waits j ≡ false = past (λ j p q. h j p (omega arith)) in
              elim (least start 0) [
                | inr (k, e) ↦ inr (k, e.waiting, inr (omega (arith, e.below), ahead, λ j q. e.first j (omega arith) q))
                | inl e ↦ inl (λ j. elim (cases_lt j start) [ inl l ↦ e j (omega arith) (omega arith) | inr g ↦ ahead j g ])
              ])
        ]

    first_sought : (k : ℕ) → waits k ≡ true → ComesFirst waits start k → seek waits start 1024 ≡ Some k
    first_sought k w f = sought start k s (b k w) w f

    in_order : InOrder waits start
    in_order = record {
      found = λ k e. elim one_comes_first [
        | inl none ↦ absurd (none-some k (sym (missed none 1024 start) ∙ e))
        | inr (j, w, f) ↦ (let same : j ≡ k = cc (first_sought j w f, e) in
            subst (λ (i : ℕ). (waits i ≡ true) × ComesFirst waits start i) same (w, f))
      ];
      first = first_sought;
      none = λ e. elim one_comes_first [
        | inl none ↦ none
        | inr (j, w, f) ↦ absurd (none-some j (sym e ∙ first_sought j w f))
      ];
      empty = λ none. missed none 1024 start;
    }

pub ring_order : RingOrder
ring_order waits start b s = in_order waits start s b
