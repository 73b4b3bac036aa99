-- Why a queue gives the number that has waited longest.
use Rattle.std.proofs.Common.{◌≡◌, ℕ, suc, ◌<◌, Bool, true, false, cond, not, ◌&&◌, ◌||◌, eqb, ltb, List, [], ◌∷◌, ◌++◌, length, Some, None, sym, refl, ap, ◌∙◌, subst, inl, inr, arith}
use Rattle.std.proofs.lemmas.Bool.{and_parts, and_from, and_right, or_cases, eqb-true, eq-eqb, not-true, not_from_true, not_from_false, cond-true, cond-false, cases_Bool, false≢true}
use Rattle.std.proofs.lemmas.Grind.{common_steps}
use Rattle.std.proofs.lemmas.Bool.Decides.{nat_tests}
use Rattle.model.specs.Rows.{elem}
use Rattle.model.specs.Waiting.{NoneWaits}
use Rattle.model.proofs.Members.{in_here, in_more}
use Rattle.schedulers.specs.Queues.{joins, serves}
use Rattle.schedulers.specs.Turns.{Call, wake, take, clear, line_after, is, woken_since, began, QueueOrder}
use Rattle.schedulers.proofs.Queueing.{elem_push}

-- of any two in the line the one before began earlier
abbrev Rising : (ℕ → ℕ) → List ℕ → Type 0
Rising since [] = Unit {0}
Rising since (k ∷ rest) = ((j : ℕ) → elem j rest ≡ true → since k < since j) × Rising since rest

rising_same : (since since' : ℕ → ℕ) (line : List ℕ) → ((k : ℕ) → elem k line ≡ true → since' k ≡ since k) → Rising since line → Rising since' line
rising_same since since' [] e r = tt
rising_same since since' (k ∷ rest) e r = (
  (λ j i. let a : since' k ≡ since k = e k (in_here k rest) in let b : since' j ≡ since j = e j (in_more j k rest i) in omega (arith, r.0 j i)),
  rising_same since since' rest (λ j i. e j (in_more j k rest i)) r.1,
)

rising_push : (since : ℕ → ℕ) (row : ℕ) (line : List ℕ) → ((k : ℕ) → elem k line ≡ true → since k < since row) → Rising since line → Rising since (line ++ (row ∷ []))
rising_push since row [] b r = ((λ j i. absurd (false≢true i)), tt)
rising_push since row (k ∷ rest) b r = (
  (λ j i. elim (or_cases (eqb j row) (elem j rest) (sym (elem_push j row rest) ∙ i)) [
    | inl e ↦ subst (λ (x : ℕ). since k < since x) (sym (eqb-true j row e)) (b k (in_here k rest))
    | inr h ↦ r.0 j h
  ]),
  rising_push since row rest (λ j i. b j (in_more j k rest i)) r.1,
)

-- what holds of a line after some calls: who waits in it and since when
record Kept (line : List ℕ) (waits : ℕ → Bool) (since : ℕ → ℕ) (calls : ℕ) : Type 0 where
  members : (k : ℕ) → elem k line ≡ waits k
  rising : Rising since line
  past : (k : ℕ) → elem k line ≡ true → since k < calls

-- a number is woken: it goes to the end, or the line stays as it was
module _ (line : List ℕ) (waits : ℕ → Bool) (since : ℕ → ℕ) (calls : ℕ) (h : Kept line waits since calls) (row : ℕ) where
  since' : ℕ → ℕ
  since' k = cond (eqb k row && not (waits k)) calls (since k)

  waits' : ℕ → Bool
  waits' k = (eqb k row && ltb k 1024) || waits k

  same : (k : ℕ) → elem k line ≡ true → since' k ≡ since k
  unfolding since'
  same k i = cond-false _ _ _ (and_right (eqb k row) _ (not_from_true _ (sym (h.members k) ∙ i)))

  module _ (goes : (ltb row 1024 && not (elem row line)) ≡ true) where
    now : since' row ≡ calls
    unfolding since'
    now = cond-true _ _ _ (and_from (eqb row row) _ (eq-eqb row row refl) (not_from_false _ (sym (h.members row) ∙ not-true _ (and_parts (ltb row 1024) _ goes).1)))

    joined : (k : ℕ) → (eqb k row || elem k line) ≡ waits' k
    unfolding waits'
    joined k = grind (arith, common_steps, nat_tests, h.members k, goes)

    kept_new : Kept (line ++ (row ∷ [])) waits' since' (suc calls)
    kept_new = record {
      members = λ k. elem_push k row line ∙ joined k;
      rising = rising_push since' row line (λ k i. omega (arith, h.past k i, same k i, now)) (rising_same since since' line same h.rising);
      past = λ k i. elim (or_cases (eqb k row) (elem k line) (sym (elem_push k row line) ∙ i)) [
        | inl e ↦ (let a : since' k ≡ since' row = ap since' (eqb-true k row e) in omega (arith, now))
        | inr m ↦ omega (arith, same k m, h.past k m)
      ];
    }

  module _ (stays : (ltb row 1024 && not (elem row line)) ≡ false) where
    stayed : (k : ℕ) → elem k line ≡ waits' k
    unfolding waits'
    stayed k = grind (arith, common_steps, nat_tests, h.members k, stays)

    kept_old : Kept line waits' since' (suc calls)
    kept_old = record {
      members = stayed;
      rising = rising_same since since' line same h.rising;
      past = λ k i. omega (arith, same k i, h.past k i);
    }

  kept_wake : Kept (joins line row) waits' since' (suc calls)
  kept_wake =
      elim (cases_Bool (ltb row 1024 && not (elem row line))) [
        | inl goes ↦ subst (λ (ks : List ℕ). Kept ks waits' since' (suc calls)) (sym (cond-true _ _ _ goes)) (kept_new goes)
        | inr stays ↦ subst (λ (ks : List ℕ). Kept ks waits' since' (suc calls)) (sym (cond-false _ _ _ stays)) (kept_old stays)
      ]

-- the first of the line is taken; it stood there once, or it would have begun earlier than itself
kept_take : (line : List ℕ) (waits : ℕ → Bool) (since : ℕ → ℕ) (calls : ℕ) → Kept line waits since calls → Kept (serves line).1 (λ k. not (is k (serves line).0) && waits k) since (suc calls)
kept_take [] waits since calls h = record { members = h.members; rising = tt; past = λ k i. absurd (false≢true i) }
kept_take (row ∷ rest) waits since calls h = record {
  members = λ k. grind (arith, common_steps, nat_tests, h.members k, h.rising.0 k);
  rising = h.rising.1;
  past = λ k i. omega (arith, h.past k (in_more k row rest i));
}

kept : (past : List Call) → Kept (line_after past) (woken_since past) (began past) (length past)
unfolding waits' since'
kept [] = record { members = λ k. refl; rising = tt; past = λ k i. absurd (false≢true i) }
kept (wake row ∷ past) = kept_wake (line_after past) (woken_since past) (began past) (length past) (kept past) row
kept (take ∷ past) = kept_take (line_after past) (woken_since past) (began past) (length past) (kept past)
kept (clear ∷ past) = record { members = λ k. refl; rising = tt; past = λ k i. absurd (false≢true i) }

-- what a line serves stands in it, before all others
module _ (waits : ℕ → Bool) (since : ℕ → ℕ) (calls : ℕ) where
  waiting_served : (line : List ℕ) → Kept line waits since calls → (k : ℕ) → (serves line).0 ≡ Some k → waits k ≡ true
  waiting_served [] h k e = absurd (let z : ◌≡◌ {A = ℕ} 0 1 = cc in omega arith)
  waiting_served (row ∷ rest) h k e =
      let same : row ≡ k = cc in
      ap waits (sym same) ∙ sym (h.members row) ∙ in_here row rest

  longest_served : (line : List ℕ) → Kept line waits since calls → (k j : ℕ) → (serves line).0 ≡ Some k → waits j ≡ true → (j ≡ k → ⊥) → since k < since j
  longest_served [] h k j e w d = absurd (let z : ◌≡◌ {A = ℕ} 0 1 = cc in omega arith)
  longest_served (row ∷ rest) h k j e w d =
      let same : row ≡ k = cc in
      elim (or_cases (eqb j row) (elem j rest) (h.members j ∙ w)) [
        | inl i ↦ absurd (d (eqb-true j row i ∙ same))
        | inr i ↦ subst (λ (x : ℕ). since x < since j) same (h.rising.0 j i)
      ]

  none_served : (line : List ℕ) → Kept line waits since calls → (serves line).0 ≡ None → NoneWaits waits
  none_served [] h e = λ k. sym (h.members k)
  none_served (row ∷ rest) h e = absurd (let z : ◌≡◌ {A = ℕ} 0 1 = cc in omega arith)

pub queue_order : QueueOrder
queue_order = record {
  waiting = λ past. (kept past).members;
  served = λ past. waiting_served _ _ _ (line_after past) (kept past);
  longest = λ past. longest_served _ _ _ (line_after past) (kept past);
  none = λ past. none_served _ _ _ (line_after past) (kept past);
}
