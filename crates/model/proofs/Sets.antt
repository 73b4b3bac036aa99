-- Sets of values and boxes, compared by what they have.
use Rattle.std.proofs.Common.{◌≡◌, ℕ, zero, suc, ◌<◌, Bool, true, false, cond, ◌⊎◌, sym, refl, ◌∙◌, subst, inl, inr, ⊎_elim, arith}
use Rattle.std.proofs.lemmas.Bool.{cases_Bool, cases_eq, true≢false, false≢true, not-true}
use Rattle.model.specs.Domains.{has, Has, set_of, only, cut_set}
use Rattle.model.specs.Boxes.{Box, ◌⊆◌}
use Rattle.model.specs.declared.domain.Domain.{Domain}
use Rattle.model.specs.declared.domain.Domain.TheVariants.{Empty, Zero, One, Open}

-- sets with the same values are the same
pub same_sets : (d e : Domain) → ((v : Bool) → Has d v → Has e v) → ((v : Bool) → Has e v → Has d v) → d ≡ e
same_sets Empty Empty p q = refl
same_sets Empty Zero p q = absurd (false≢true (q false refl))
same_sets Empty One p q = absurd (false≢true (q true refl))
same_sets Empty Open p q = absurd (false≢true (q true refl))
same_sets Zero Empty p q = absurd (false≢true (p false refl))
same_sets Zero Zero p q = refl
same_sets Zero One p q = absurd (false≢true (p false refl))
same_sets Zero Open p q = absurd (false≢true (q true refl))
same_sets One Empty p q = absurd (false≢true (p true refl))
same_sets One Zero p q = absurd (false≢true (p true refl))
same_sets One One p q = refl
same_sets One Open p q = absurd (false≢true (q false refl))
same_sets Open Empty p q = absurd (false≢true (p true refl))
same_sets Open Zero p q = absurd (false≢true (p true refl))
same_sets Open One p q = absurd (false≢true (p false refl))
same_sets Open Open p q = refl

-- a set that is not empty has a value
pub some_value : (d : Domain) → (d ≡ Empty → ⊥) → (v : Bool) × Has d v
some_value Empty n = absurd (n refl)
some_value Zero n = (false, refl)
some_value One n = (true, refl)
some_value Open n = (true, refl)

-- a set inside the empty one is empty
pub inside_empty : (d e : Domain) → ((v : Bool) → Has d v → Has e v) → e ≡ Empty → d ≡ Empty
inside_empty d e p q = same_sets d Empty (λ v h. subst (λ x. Has x v) q (p v h)) (λ v h. absurd (false≢true h))

pub has-set_of : (p q v : Bool) → has (set_of p q) v ≡ cond v q p
has-set_of false false true = refl
has-set_of false false false = refl
has-set_of true false true = refl
has-set_of true false false = refl
has-set_of false true true = refl
has-set_of false true false = refl
has-set_of true true true = refl
has-set_of true true false = refl

-- equal or not, by comparing what each has
pub set_decides : (d e : Domain) → (d ≡ e) ⊎ (d ≡ e → ⊥)
set_decides d e = ⊎_elim
    (λ f. ⊎_elim (λ t. inl (same_sets d e (λ v p. sym (both f t v) ∙ p) (λ v p. both f t v ∙ p))) (λ t. inr (apart true t)) (same true))
    (λ f. inr (apart false f))
    (same false)
  where
    same : (v : Bool) → (has d v ≡ has e v) ⊎ (has d v ≡ has e v → ⊥)
    same v = ⊎_elim
        (λ p. ⊎_elim (λ q. inl (p ∙ sym q)) (λ q. inr (λ s. true≢false (sym p ∙ (s ∙ q)))) (cases_Bool (has e v)))
        (λ p. ⊎_elim (λ q. inr (λ s. false≢true (sym p ∙ (s ∙ q)))) (λ q. inl (p ∙ sym q)) (cases_Bool (has e v)))
        (cases_Bool (has d v))

    apart : (v : Bool) → (has d v ≡ has e v → ⊥) → d ≡ e → ⊥
    apart v n s = n (subst (λ x. has d v ≡ has x v) s refl)

    both : has d false ≡ has e false → has d true ≡ has e true → (v : Bool) → has d v ≡ has e v
    both f t false = f
    both f t true = t

-- the set of one value has that one
pub has-only : (x w : Bool) → Has (only x) w → w ≡ x
has-only true w h = h
has-only false w h = not-true w h

pub only_has : (x : Bool) → Has (only x) x
only_has true = refl
only_has false = refl

-- what a cut set has
pub has-cut : (d : Domain) (v w : Bool) → Has (cut_set d v) w → (w ≡ v) × Has d w
has-cut d true true h = (refl, sym (has-set_of false (has d true) true) ∙ h)
has-cut d true false h = absurd (false≢true (sym (has-set_of false (has d true) false) ∙ h))
has-cut d false true h = absurd (false≢true (sym (has-set_of (has d false) false true) ∙ h))
has-cut d false false h = (refl, sym (has-set_of (has d false) false false) ∙ h)

pub cut_has : (d : Domain) (v w : Bool) → w ≡ v → Has d w → Has (cut_set d v) w
cut_has d true true e h = has-set_of false (has d true) true ∙ h
cut_has d true false e h = absurd (false≢true e)
cut_has d false true e h = absurd (true≢false e)
cut_has d false false e h = has-set_of (has d false) false false ∙ h

-- boxes that contain each other are alike at each flag
pub ⊆_both : (a b : Box) → a ⊆ b → b ⊆ a → (f : ℕ) → a f ≡ b f
⊆_both a b p q f = same_sets (a f) (b f) (p f) (q f)

-- two boxes are alike below n, or differ at a flag
pub differ : (a b : Box) (n : ℕ) → ((f : ℕ) → f < n → a f ≡ b f) ⊎ ((f : ℕ) × (f < n) × (a f ≡ b f → ⊥))
differ a b zero = inl (λ f l. absurd (omega arith))
differ a b (suc n) = ⊎_elim
    (λ same. ⊎_elim
    (λ e. inl (λ f l. ⊎_elim (λ x. subst (λ y. a y ≡ b y) (sym x) e) (λ x. same f (omega arith)) (cases_eq f n)))
    (λ d. inr (n, omega arith, d))
    (set_decides (a n) (b n)))
    (λ d. inr (d.0, omega (arith, d.1), d.2))
    (differ a b n)
