-- States compared as numerals.
use Rattle.std.proofs.Common.{◌≡◌, ℕ, zero, suc, ◌^◌, ◌<◌, Bool, true, false, ◌⊎◌, [], ◌∷◌, length, sym, refl, ◌∙◌, ap₂, inl, inr, ⊎_elim, suc-le-suc, le_of_suc-le-suc, pow-suc, arith}
use Rattle.std.proofs.lemmas.List.{get_or_past}
use Rattle.std.proofs.lemmas.Bool.{cases_lt, true≢false, false≢true}
use Rattle.model.specs.States.{State, value, numeral}
use Rattle.model.specs.Laws.{Before, NumeralsCompare, NumeralsTell}

numeral_below : (s : State) → numeral s < 2 ^ length s
numeral_below [] = omega arith
numeral_below (true ∷ s) = let h = numeral_below s in rw pow-suc (omega arith)
numeral_below (false ∷ s) = let h = numeral_below s in rw pow-suc (omega arith)

-- alike below a place, 0 there in the one and 1 in the other
less : (s t : State) (k : ℕ) → length s ≡ length t → k < length s → ((j : ℕ) → j < k → value s j ≡ value t j) → value s k ≡ false → value t k ≡ true → numeral s < numeral t
less [] t k e h same a b = absurd (omega arith)
less (v ∷ s) [] k e h same a b = omega arith
less (true ∷ s) (w ∷ t) zero e h same a b = absurd (true≢false a)
less (false ∷ s) (false ∷ t) zero e h same a b = absurd (false≢true b)
less (false ∷ s) (true ∷ t) zero e h same a b =
    let p = numeral_below s in
    let q : length s ≡ length t = omega arith in
    let p' : numeral s < 2 ^ length t = rw q at p in
    omega arith
less (v ∷ s) (w ∷ t) (suc k) e h same a b =
    let q : length s ≡ length t = omega arith in
    go q (same 0 (omega arith)) (less s t k q (le_of_suc-le-suc h) (λ j lt. same (suc j) (suc-le-suc lt)) a b)
  where
    go : length s ≡ length t → v ≡ w → numeral s < numeral t → numeral (v ∷ s) < numeral (w ∷ t)
    go q vw lt = rw (vw, q) (omega arith)

later : (s t : State) (v w : Bool) → v ≡ w → Before s t → Before (v ∷ s) (w ∷ t)
later s t v w e b = record { flag = suc b.flag; same = each; zero = b.zero; one = b.one }
  where
    each : (f : ℕ) → f < suc b.flag → value (v ∷ s) f ≡ value (w ∷ t) f
    each zero l = e
    each (suc f) l = b.same f (le_of_suc-le-suc l)

-- two states of as many flags are the same, or one comes before the other
sort : (s t : State) → length s ≡ length t → (s ≡ t) ⊎ (Before s t ⊎ Before t s)
sort [] [] e = inl refl
sort [] (w ∷ t) e = absurd (omega arith)
sort (v ∷ s) [] e = absurd (omega arith)
sort (false ∷ s) (true ∷ t) e = inr (inl (record { flag = 0; same = λ f l. absurd (omega arith); zero = refl; one = refl }))
sort (true ∷ s) (false ∷ t) e = inr (inr (record { flag = 0; same = λ f l. absurd (omega arith); zero = refl; one = refl }))
sort (true ∷ s) (true ∷ t) e = ⊎_elim
    (λ q. inl (ap₂ (λ x xs. x ∷ xs) refl q))
    (λ q. inr (⊎_elim (λ b. inl (later s t true true refl b)) (λ b. inr (later t s true true refl b)) q))
    (sort s t (omega arith))
sort (false ∷ s) (false ∷ t) e = ⊎_elim
    (λ q. inl (ap₂ (λ x xs. x ∷ xs) refl q))
    (λ q. inr (⊎_elim (λ b. inl (later s t false false refl b)) (λ b. inr (later t s false false refl b)) q))
    (sort s t (omega arith))

-- the flag that decides is one of theirs
decides : (s t : State) (b : Before s t) → b.flag < length t
decides s t b = ⊎_elim (λ l. l) (λ l. absurd (false≢true (sym (get_or_past t b.flag false l) ∙ b.one))) (cases_lt b.flag (length t))

before_less : (s t : State) → length s ≡ length t → Before s t → numeral s < numeral t
before_less s t e b = less s t b.flag e (omega (arith, decides s t b)) b.same b.zero b.one

pub compare : NumeralsCompare
compare s t e = (
  (λ l. ⊎_elim
      (λ q. absurd (same_not_less q l))
      (λ q. ⊎_elim (λ b. b) (λ b. absurd (omega (arith, l, before_less t s (sym e) b))) q)
      (sort s t e)),
  before_less s t e,
)
  where
    same_not_less : s ≡ t → numeral s < numeral t → ⊥
    same_not_less q l = let k : numeral t < numeral t = rw q at l in omega arith

pub tell : NumeralsTell
tell s t e q = ⊎_elim
    (λ same. same)
    (λ d. absurd (⊎_elim (λ b. omega (arith, q, before_less s t e b)) (λ b. omega (arith, q, before_less t s (sym e) b)) d))
    (sort s t e)
