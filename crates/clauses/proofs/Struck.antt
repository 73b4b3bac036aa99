-- What a strike does to the flags of a clause leaves them exactly the values that had support.
use Rattle.std.proofs.Common.{◌≡◌, ℕ, ◌<◌, Bool, true, false, cond, eqb, ◌⊎◌, List, [], ◌∷◌, map, length, filter, sym, refl, ap, ◌∙◌, subst, ap₂, inl, inr, ⊎_elim, not-suc-le-zero}
use mathlib.Core.Bool.{beq}
use Rattle.std.proofs.lemmas.Bool.{cases_Bool, cases_eq, both_ways, cond-true, cond-false, eq-eqb, eqb-true, ne_eqb, or_cases, or_left, or_right, or_from, or_parts, true≢false, false≢true}
use Rattle.model.specs.Boxes.{Box, Supported}
use Rattle.model.specs.Domains.{has, Has, is_empty, cut_set}
use Rattle.model.specs.Facts.{cut}
use Rattle.model.specs.Refusals.{some_twice}
use Rattle.model.specs.Rows.{Valuation, elem, On}
use Rattle.model.specs.Strikes.{Struck, Emptied, Says, Strikes, CutSays}
use Rattle.model.specs.declared.domain.Domain.{Domain}
use Rattle.model.specs.declared.domain.Domain.TheVariants.{Empty, Zero, One, Open}
use Rattle.model.specs.declared.strike.Strike.{Strike}
use Rattle.model.specs.declared.strike.Strike.TheVariants as strike
use Rattle.model.proofs.Cutting.{with_here, with_other}
use Rattle.model.proofs.Members.{in_here, in_more}
use Rattle.model.proofs.Revise.{beq_true, beq_refl}
use Rattle.model.proofs.Sets.{has-cut, cut_has}
use Rattle.model.proofs.Striking.{off}
use Rattle.clauses.specs.Literals.{flag_of, flags_of, some_true, row_of}
use Rattle.clauses.specs.Outlooks.{can, possible, some_empty, by_number, outlook_of, emptied, Acts}
use Rattle.clauses.specs.UnitRule.{Among, CanBeTrue}
use Rattle.clauses.specs.declared.clause.Outlook.TheVariants.{Dead}
use Rattle.clauses.specs.declared.literal.Literal.{Literal}

among_flag : (ls : List (Literal ℕ)) (m : Literal ℕ) → Among m ls → elem m.flag (flags_of ls) ≡ true
among_flag [] m i = absurd i
among_flag (l ∷ ls) m (inl e) = or_left (eqb m.flag l.flag) (elem m.flag (flags_of ls)) (eq-eqb m.flag l.flag (ap flag_of e))
among_flag (l ∷ ls) m (inr i) = in_more m.flag l.flag (flags_of ls) (among_flag ls m i)

-- the literals that pass a test
module _ (p : Literal ℕ → Bool) where
  kept_in : (ls : List (Literal ℕ)) (m : Literal ℕ) → Among m (filter p ls) → Among m ls × (p m ≡ true)
  kept_in [] m i = absurd i
  kept_in (l ∷ ls) m i = go (p l) refl i (kept_in ls m)
    where
      go : (x : Bool) → p l ≡ x → Among m (cond x (l ∷ filter p ls) (filter p ls)) → (Among m (filter p ls) → Among m ls × (p m ≡ true)) → Among m (l ∷ ls) × (p m ≡ true)
      go true e (inl q) more = (inl q, ap p q ∙ e)
      go true e (inr j) more = let r = more j in (inr r.0, r.1)
      go false e j more = let r = more j in (inr r.0, r.1)

  in_kept : (ls : List (Literal ℕ)) (m : Literal ℕ) → Among m ls → p m ≡ true → Among m (filter p ls)
  in_kept [] m i h = i
  in_kept (l ∷ ls) m (inl e) h = subst (λ x. Among m (cond x (l ∷ filter p ls) (filter p ls))) (sym (ap p (sym e) ∙ h)) (inl e)
  in_kept (l ∷ ls) m (inr i) h = go (p l) (in_kept ls m i h)
    where
      go : (x : Bool) → Among m (filter p ls) → Among m (cond x (l ∷ filter p ls) (filter p ls))
      go true j = inr j
      go false j = j

  kept_off : (ls : List (Literal ℕ)) (f : ℕ) → elem f (flags_of ls) ≡ false → elem f (flags_of (filter p ls)) ≡ false
  kept_off [] f n = n
  kept_off (l ∷ ls) f n = let q = or_parts (eqb f l.flag) (elem f (flags_of ls)) n in go (p l) q.0 (kept_off ls f q.1)
    where
      go : (x : Bool) → eqb f l.flag ≡ false → elem f (flags_of (filter p ls)) ≡ false → elem f (flags_of (cond x (l ∷ filter p ls) (filter p ls))) ≡ false
      go true a e = or_from (eqb f l.flag) (elem f (flags_of (filter p ls))) a e
      go false a e = e

  kept_apart : (ls : List (Literal ℕ)) → some_twice (flags_of ls) ≡ false → some_twice (flags_of (filter p ls)) ≡ false
  kept_apart [] n = n
  kept_apart (l ∷ ls) n =
      let q = or_parts (elem l.flag (flags_of ls)) (some_twice (flags_of ls)) n in
      go (p l) (kept_off ls l.flag q.0) (kept_apart ls q.1)
    where
      go : (x : Bool) → elem l.flag (flags_of (filter p ls)) ≡ false → some_twice (flags_of (filter p ls)) ≡ false → some_twice (flags_of (cond x (l ∷ filter p ls) (filter p ls))) ≡ false
      go true a e = or_from (elem l.flag (flags_of (filter p ls))) (some_twice (flags_of (filter p ls))) a e
      go false a e = e

-- flags that have no value left
is_empty_true : (d : Domain) → is_empty d ≡ true → d ≡ Empty
is_empty_true Empty e = refl
is_empty_true Zero e = absurd (false≢true e)
is_empty_true One e = absurd (false≢true e)
is_empty_true Open e = absurd (false≢true e)

empty_on : (b : Box) (ls : List (Literal ℕ)) → some_empty b ls ≡ true → (f : ℕ) × (elem f (flags_of ls) ≡ true) × (b f ≡ Empty)
empty_on b [] h = absurd (false≢true h)
empty_on b (l ∷ ls) h = ⊎_elim
    (λ e. (l.flag, in_here l.flag (flags_of ls), is_empty_true (b l.flag) e))
    (λ e. let (f, i, q) = empty_on b ls e in (f, in_more f l.flag (flags_of ls) i, q))
    (or_cases (is_empty (b l.flag)) (some_empty b ls) h)

full_on : (b : Box) (ls : List (Literal ℕ)) → some_empty b ls ≡ false → (f : ℕ) → elem f (flags_of ls) ≡ true → b f ≡ Empty → ⊥
full_on b [] h f i e = false≢true i
full_on b (l ∷ ls) h f i e =
    let p = or_parts (is_empty (b l.flag)) (some_empty b ls) h in
    ⊎_elim
    (λ q. both_ways (is_empty (b l.flag)) p.0 (ap is_empty (ap b (sym (eqb-true f l.flag q)) ∙ e)))
    (λ j. full_on b ls p.1 f j e)
    (or_cases (eqb f l.flag) (elem f (flags_of ls)) i)

-- values meet a clause where they make one of its literals true
pub met : (s : Valuation) (ls : List (Literal ℕ)) → some_true ls (map s (flags_of ls)) ≡ true → (m : Literal ℕ) × Among m ls × (s m.flag ≡ m.positive)
met s [] h = absurd (false≢true h)
met s (l ∷ ls) h = ⊎_elim
    (λ e. (l, inl refl, beq_true (s l.flag) l.positive e))
    (λ e. let (m, i, q) = met s ls e in (m, inr i, q))
    (or_cases (beq (s l.flag) l.positive) (some_true ls (map s (flags_of ls))) h)

pub meets : (s : Valuation) (ls : List (Literal ℕ)) (m : Literal ℕ) → Among m ls → s m.flag ≡ m.positive → some_true ls (map s (flags_of ls)) ≡ true
meets s [] m i e = absurd i
meets s (l ∷ ls) m (inl q) e =
    or_left (beq (s l.flag) l.positive) (some_true ls (map s (flags_of ls)))
    (subst (λ k. beq (s k.flag) k.positive ≡ true) q (subst (λ v. beq v m.positive ≡ true) (sym e) (beq_refl m.positive)))
meets s (l ∷ ls) m (inr i) e =
    or_right (beq (s l.flag) l.positive) (some_true ls (map s (flags_of ls))) (meets s ls m i e)

-- signs and literals
bool_decides : (x y : Bool) → (x ≡ y) ⊎ (x ≡ y → ⊥)
bool_decides true true = inl refl
bool_decides true false = inr true≢false
bool_decides false true = inr false≢true
bool_decides false false = inl refl

-- of two different signs one is the given one
other : (x y v : Bool) → (x ≡ v → ⊥) → (x ≡ y → ⊥) → y ≡ v
other true y true p q = absurd (p refl)
other true true false p q = absurd (q refl)
other true false false p q = refl
other false true true p q = refl
other false false true p q = absurd (q refl)
other false y false p q = absurd (p refl)

same_literal : (l m : Literal ℕ) → l.flag ≡ m.flag → l.positive ≡ m.positive → l ≡ m
same_literal l m p q = ap₂ (λ f s. record { flag = f; positive = s }) p q

-- values with one at a flag and a literal true, and else some value of each set
value_in : (d : Domain) → (d ≡ Empty → ⊥) → Has d (has d true)
value_in Empty n = absurd (n refl)
value_in Zero n = refl
value_in One n = refl
value_in Open n = refl

abbrev pick : Box → ℕ → Bool → Literal ℕ → Valuation
pick b f v w g = cond (eqb g f) v (cond (eqb g w.flag) w.positive (has (b g) true))

module _ (b : Box) (f : ℕ) (v : Bool) (w : Literal ℕ) where
  pick_here : pick b f v w f ≡ v
  pick_here = cond-true (eqb f f) v _ (eq-eqb f f refl)

  pick_true : (w.flag ≡ f → w.positive ≡ v) → pick b f v w w.flag ≡ w.positive
  pick_true h = ⊎_elim
      (λ e. cond-true (eqb w.flag f) v _ (eq-eqb w.flag f e) ∙ sym (h e))
      (λ n. cond-false (eqb w.flag f) v _ (ne_eqb w.flag f n) ∙ cond-true (eqb w.flag w.flag) w.positive _ (eq-eqb w.flag w.flag refl))
      (cases_eq w.flag f)

  pick_other : (g : ℕ) → (g ≡ f → ⊥) → (g ≡ w.flag → ⊥) → pick b f v w g ≡ has (b g) true
  pick_other g n m = cond-false (eqb g f) v _ (ne_eqb g f n) ∙ cond-false (eqb g w.flag) w.positive _ (ne_eqb g w.flag m)

  -- a value has support where a literal can be true beside it
  support_by : (ls : List (Literal ℕ)) → (Emptied (row_of ls) b → ⊥) → Has (b f) v → CanBeTrue ls b w → (w.flag ≡ f → w.positive ≡ v) → Supported (row_of ls) b f v
  support_by ls full h (i, c) a = record {
    values = pick b f v w;
    here = pick_here;
    meets = meets (pick b f v w) ls w i (pick_true a);
    inside = λ g o. ⊎_elim
        (λ e. subst (λ k. Has (b k) (pick b f v w k)) (sym e) (subst (Has (b f)) (sym pick_here) h))
        (λ n. ⊎_elim
        (λ e. subst (λ k. Has (b k) (pick b f v w k)) (sym e) (subst (Has (b w.flag)) (sym (pick_true a)) c))
        (λ m. subst (Has (b g)) (sym (pick_other g n m)) (value_in (b g) (λ x. full (g, o, x))))
        (cases_eq g w.flag))
        (cases_eq g f);
  }

module _ (ls : List (Literal ℕ)) (b : Box) where
  -- a value that has support is there, and so is a literal that can be true beside it
  supported_has : (f : ℕ) (v : Bool) → On (row_of ls) f → Supported (row_of ls) b f v → Has (b f) v
  supported_has f v o s = subst (Has (b f)) s.here (s.inside f o)

  supported_true : (f : ℕ) (v : Bool) → (s : Supported (row_of ls) b f v) → (m : Literal ℕ) × CanBeTrue ls b m × (s.values m.flag ≡ m.positive)
  supported_true f v s =
      let (m, i, e) = met s.values ls s.meets in
      (m, (i, subst (Has (b m.flag)) e (s.inside m.flag (among_flag ls m i))), e)

  -- no value has support where a flag has none left, or no literal can be true
  pub none_empty : Emptied (row_of ls) b → (f : ℕ) (v : Bool) → Supported (row_of ls) b f v → ⊥
  none_empty (g, i, e) f v s = false≢true (subst (λ d. Has d (s.values g)) e (s.inside g i))

  pub none_true : ((l : Literal ℕ) → CanBeTrue ls b l → ⊥) → (f : ℕ) (v : Bool) → Supported (row_of ls) b f v → ⊥
  none_true n f v s = let (m, c, e) = supported_true f v s in n m c

  pub gone : (f : ℕ) → On (row_of ls) f → emptied (flags_of ls) b f ≡ Empty
  gone f o = cond-true (elem f (flags_of ls)) Empty (b f) o

  pub struck_dead : 0 < length ls → ((f : ℕ) (v : Bool) → Supported (row_of ls) b f v → ⊥) → Strikes (row_of ls) b (emptied (flags_of ls) b) strike.Dead
  struck_dead some none = record {
    left = record {
      kept = λ f o v. ((λ h. absurd (false≢true (subst (λ d. Has d v) (gone f o) h))), (λ s. absurd (none f v s)));
      rest = λ f n. cond-false (elem f (flags_of ls)) Empty (b f) (off (row_of ls) f n);
    };
    says = let (f, o) = first ls some in (f, o, gone f o);
  }
    where
      first : (ms : List (Literal ℕ)) → 0 < length ms → (f : ℕ) × On (row_of ms) f
      first [] h = absurd (not-suc-le-zero h)
      first (m ∷ ms) h = (m.flag, in_here m.flag (flags_of ms))

  module _ (full : Emptied (row_of ls) b → ⊥) where
    -- two literals can be true: one of them beside any value
    beside : (l m : Literal ℕ) → CanBeTrue ls b l → CanBeTrue ls b m → (l ≡ m → ⊥) → (f : ℕ) (v : Bool) → (w : Literal ℕ) × CanBeTrue ls b w × (w.flag ≡ f → w.positive ≡ v)
    beside l m cl cm n f v = ⊎_elim
        (λ p. ⊎_elim
        (λ q. ⊎_elim
        (λ x. (l, cl, λ _. x))
        (λ x. (m, cm, λ _. other l.positive m.positive v x (λ y. n (same_literal l m (p ∙ sym q) y))))
        (bool_decides l.positive v))
        (λ q. (m, cm, λ x. absurd (q x)))
        (cases_eq m.flag f))
        (λ p. (l, cl, λ x. absurd (p x)))
        (cases_eq l.flag f)

    pub struck_free : (l m : Literal ℕ) → CanBeTrue ls b l → CanBeTrue ls b m → (l ≡ m → ⊥) → Strikes (row_of ls) b b strike.Unchanged
    struck_free l m cl cm n = record {
      left = record {
        kept = λ f o v. (
          (λ h. let (w, c, a) = beside l m cl cm n f v in support_by b f v w ls full h c a),
          supported_has f v o,
        );
        rest = λ f n. refl;
      };
      says = (full, λ f. refl);
    }

    -- only one can be true: its flag is cut down to its sign
    module _ (l : Literal ℕ) (there : CanBeTrue ls b l) (alone : (m : Literal ℕ) → CanBeTrue ls b m → m ≡ l) where
      cut_here : cut b l.flag l.positive l.flag ≡ cut_set (b l.flag) l.positive
      cut_here = with_here b l.flag (cut_set (b l.flag) l.positive)

      cut_other : (f : ℕ) → (f ≡ l.flag → ⊥) → cut b l.flag l.positive f ≡ b f
      cut_other f n = with_other b l.flag (cut_set (b l.flag) l.positive) f n

      forced_sound : (f : ℕ) (v : Bool) → Has (cut b l.flag l.positive f) v → Supported (row_of ls) b f v
      forced_sound f v h = ⊎_elim
          (λ q.
          let c = has-cut (b l.flag) l.positive v (subst (λ d. Has d v) (ap (cut b l.flag l.positive) q ∙ cut_here) h) in
          support_by b f v l ls full (subst (λ g. Has (b g) v) (sym q) c.1) there (λ _. sym c.0))
          (λ n. support_by b f v l ls full (subst (λ d. Has d v) (cut_other f n) h) there (λ q. absurd (n (sym q))))
          (cases_eq f l.flag)

      forced_complete : (f : ℕ) (v : Bool) → On (row_of ls) f → Supported (row_of ls) b f v → Has (cut b l.flag l.positive f) v
      forced_complete f v o s = ⊎_elim
          (λ q.
          let (m, c, t) = supported_true f v s in
          let x : s.values l.flag ≡ l.positive = subst (λ k. s.values k.flag ≡ k.positive) (alone m c) t in
          let y : v ≡ l.positive = sym s.here ∙ ap s.values q ∙ x in
          subst (λ d. Has d v) (sym (ap (cut b l.flag l.positive) q ∙ cut_here))
          (cut_has (b l.flag) l.positive v y (subst (λ g. Has (b g) v) q (supported_has f v o s))))
          (λ n. subst (λ d. Has d v) (sym (cut_other f n)) (supported_has f v o s))
          (cases_eq f l.flag)

      forced_left : Struck (row_of ls) b (cut b l.flag l.positive)
      forced_left = record {
        kept = λ f o v. (forced_sound f v, forced_complete f v o);
        rest = λ f n. cut_other f (λ q. n (subst (λ g. On (row_of ls) g) (sym q) (among_flag ls l there.0)));
      }

      forced_alive : Emptied (row_of ls) (cut b l.flag l.positive) → ⊥
      forced_alive (f, o, q) = ⊎_elim
          (λ x. false≢true (subst (λ d. Has d l.positive) (sym cut_here ∙ ap (cut b l.flag l.positive) (sym x) ∙ q) (cut_has (b l.flag) l.positive l.positive refl there.1)))
          (λ n. full (f, o, sym (cut_other f n) ∙ q))
          (cases_eq f l.flag)

      forced_same : cut_set (b l.flag) l.positive ≡ b l.flag → (f : ℕ) → cut b l.flag l.positive f ≡ b f
      forced_same h f = ⊎_elim (λ q. ap (cut b l.flag l.positive) q ∙ cut_here ∙ h ∙ ap b (sym q)) (cut_other f) (cases_eq f l.flag)

      forced_says : (a : Strike) → CutSays a (b l.flag) (cut_set (b l.flag) l.positive) → Says a (row_of ls) b (cut b l.flag l.positive)
      forced_says strike.Unchanged h = (forced_alive, forced_same h.1)
      forced_says strike.Changed h = (forced_alive, (l.flag, among_flag ls l there.0, λ q. h.1 (sym cut_here ∙ q)))
      forced_says strike.Dead h = (l.flag, among_flag ls l there.0, cut_here ∙ h)

      pub struck_forced : (a : Strike) → CutSays a (b l.flag) (cut_set (b l.flag) l.positive) → Strikes (row_of ls) b (cut b l.flag l.positive) a
      struck_forced a h = record { left = forced_left; says = forced_says a h }

-- what the program finds, in the rule's words
none_kept : (ls : List (Literal ℕ)) (b : Box) → possible b ls ≡ [] → (m : Literal ℕ) → CanBeTrue ls b m → ⊥
none_kept ls b e m (i, c) = subst (Among m) e (in_kept (can b) ls m i c)

module _ (ls : List (Literal ℕ)) (b : Box) (l : Literal ℕ) (ms : List (Literal ℕ)) (e : possible b ls ≡ l ∷ ms) where
  kept_first : CanBeTrue ls b l
  kept_first = kept_in (can b) ls l (subst (Among l) (sym e) (inl refl))

  kept_next : (m : Literal ℕ) → Among m ms → CanBeTrue ls b m
  kept_next m i = kept_in (can b) ls m (subst (Among m) (sym e) (inr i))

  kept_all : (m : Literal ℕ) → CanBeTrue ls b m → Among m (l ∷ ms)
  kept_all m (i, c) = subst (Among m) e (in_kept (can b) ls m i c)

  kept_differs : some_twice (flags_of ls) ≡ false → (m : Literal ℕ) → Among m ms → l ≡ m → ⊥
  kept_differs apart m i q =
      let n = or_parts (elem l.flag (flags_of ms)) (some_twice (flags_of ms)) (subst (λ ps. some_twice (flags_of ps) ≡ false) e (kept_apart (can b) ls apart)) in
      both_ways (elem l.flag (flags_of ms)) n.0 (subst (λ k. elem k.flag (flags_of ms) ≡ true) (sym q) (among_flag ms m i))

module _ (ls : List (Literal ℕ)) (some : 0 < length ls) (apart : some_twice (flags_of ls) ≡ false) (b after : Box) (a : Strike) where
  dead : ((f : ℕ) (v : Bool) → Supported (row_of ls) b f v → ⊥) → Acts Dead (flags_of ls) b after a → Strikes (row_of ls) b after a
  dead none (e, q) = subst (λ x. Strikes (row_of ls) b x a) (sym e) (subst (Strikes (row_of ls) b (emptied (flags_of ls) b)) (sym q) (struck_dead ls b some none))

  alive : (Emptied (row_of ls) b → ⊥) → (ps : List (Literal ℕ)) → possible b ls ≡ ps → Acts (by_number ps) (flags_of ls) b after a → Strikes (row_of ls) b after a
  alive full [] h acts = dead (none_true ls b (none_kept ls b h)) acts
  alive full (l ∷ []) h acts =
      subst (λ x. Strikes (row_of ls) b x a) (sym acts.left)
      (struck_forced ls b full l (kept_first ls b l [] h) (λ m c. ⊎_elim (λ q. q) (λ x. absurd x) (kept_all ls b l [] h m c)) a acts.says)
  alive full (l ∷ (m ∷ ms)) h (e, q) =
      subst (λ x. Strikes (row_of ls) b x a) (sym e)
      (subst (Strikes (row_of ls) b b) (sym q)
      (struck_free ls b full l m (kept_first ls b l (m ∷ ms) h) (kept_next ls b l (m ∷ ms) h m (inl refl)) (kept_differs ls b l (m ∷ ms) h apart m (inl refl))))

  -- doing what the literals ask for is a strike
  pub strikes : Acts (outlook_of b ls) (flags_of ls) b after a → Strikes (row_of ls) b after a
  strikes acts = ⊎_elim
      (λ h. dead (none_empty ls b (empty_on b ls h)) (subst (λ x. Acts (cond x Dead (by_number (possible b ls))) (flags_of ls) b after a) h acts))
      (λ h. alive (λ x. full_on b ls h x.0 x.1 x.2) (possible b ls) refl (subst (λ x. Acts (cond x Dead (by_number (possible b ls))) (flags_of ls) b after a) h acts))
      (cases_Bool (some_empty b ls))
