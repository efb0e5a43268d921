-- What the slots hold once a pattern has been matched.
use Rattle.std.proofs.Common.{◌≡◌, ℕ, zero, suc, ◌+◌, ◌<◌, List, [], ◌∷◌, ◌++◌, Bool, true, false, length, Option, Some, None, refl, sym, ap, subst, ◌∙◌, inl, inr, if◌then◌else◌, length-append, arith}
use Rattle.std.proofs.lemmas.List.{append-nil}
use Rattle.std.specs.Prelude.{slice_get}
use Rattle.std.proofs.lemmas.Bool.Decides.{Decides-eqb}
use Rattle.sap_judge.proofs.Decided.{decides_tree}
use Rattle.sap_judge.proofs.Layers.{slot_cases, slot_kept, slot_next}
use Rattle.sap_formula.specs.Checked.{binder_name, find_binder}
use Rattle.sap_formula.specs.Truth.{Times}
use Rattle.sap_match.specs.Atoms.{Held, held_term, held_time}
use Rattle.sap_judge.specs.Reasons.{Suits, value}
use Rattle.sap_judge.specs.code.Ready.{Place, noted, slot_at, slot_count}
use Rattle.sap_match.specs.Matched.{State, filled, is_held, onward}
use Rattle.sap_formula.specs.declared.binder.Binder.{Binder}
use Rattle.sap_formula.specs.declared.binder.Binder.TheVariants.{Message, Time}
use Rattle.sap_terms.specs.Choice.{Choice, fits_sort}
use Rattle.sap_terms.specs.Message.{IsMessage}
use Rattle.sap_terms.specs.Signature.{Sig}
use Rattle.sap_terms.specs.Trace.{Trace}
use Rattle.sap_terms.specs.declared.var.Var.{Var}

-- lists

pub get_kept : {X : Type 0} (xs ys : List X) (k : ℕ) (x : X) → slice_get xs k ≡ Some x → slice_get (xs ++ ys) k ≡ Some x
get_kept [] ys k x h = absurd (cc)
get_kept (y ∷ xs) ys zero x h = h
get_kept (y ∷ xs) ys (suc k) x h = get_kept xs ys k x h

get_end : {X : Type 0} (xs : List X) (x : X) → slice_get (xs ++ x ∷ []) (length xs) ≡ Some x
get_end [] x = refl
get_end (y ∷ xs) x = get_end xs x

-- values

-- the slots hold the values of the binders
abbrev pub Agrees : List Binder → (List ℕ → Option ℕ) → List Held → Choice → Times → Type 0
Agrees scope look held σ τ = (b : Binder) (k : ℕ) → find_binder scope (binder_name b) ≡ Some b → look (binder_name b) ≡ Some k → slice_get held k ≡ Some (value σ τ b)

-- and what they hold suits them
abbrev pub AreFilled : Sig → Trace → List Binder → (List ℕ → Option ℕ) → List Held → Type 0
AreFilled g tr scope look held = (b : Binder) (k : ℕ) → find_binder scope (binder_name b) ≡ Some b → look (binder_name b) ≡ Some k → (h : Held) × (slice_get held k ≡ Some h) × Suits g tr b h

-- variables stand for terms that their sorts allow
abbrev pub IsFitting : List Binder → Choice → Type 0
IsFitting scope σ = (v : Var) → find_binder scope v.name ≡ Some (Message v) → fits_sort v.sort (σ v) ≡ true

held_is : (h u : Held) → is_held (Some h) u ≡ true → h ≡ u
held_is (held_term t) (held_term u) e = ap (λ z. held_term z) ((decides_tree t u).0 e)
held_is (held_time j) (held_time k) e = ap (λ z. held_time z) ((Decides-eqb j k).0 e)
held_is (held_term t) (held_time k) e = absurd (cc)
held_is (held_time j) (held_term u) e = absurd (cc)

is_held_here : (h : Held) → is_held (Some h) h ≡ true
is_held_here (held_term t) = (decides_tree t t).1 refl
is_held_here (held_time j) = (Decides-eqb j j).1 refl

get_held : (o : Option Held) (u : Held) → is_held o u ≡ true → o ≡ Some u
get_held None u e = absurd (cc)
get_held (Some h) u e = ap (λ z. Some z) (held_is h u e)

module _ (g : Sig) (tr : Trace) (scope : List Binder) (p : Place) where
  -- the slots of these names, before
  pub record Start (seen : List (List ℕ)) (held : List Held) : Type 0 where
    pub counted : length held ≡ slot_count p.outer + length seen
    pub filled : AreFilled g tr scope (slot_at p seen) held

  -- and after, where it's known that C
  pub record Ends (seen later : List (List ℕ)) (held : List Held) (C : Choice → Times → Type 0) (out : List Held) : Type 0 where
    pub new : List Held
    pub is : out ≡ held ++ new
    pub start : Start later out
    pub back : (σ : Choice) (τ : Times) → Agrees scope (slot_at p later) out σ τ → Agrees scope (slot_at p seen) held σ τ × C σ τ
    pub forth : (σ : Choice) (τ : Times) → Agrees scope (slot_at p seen) held σ τ → C σ τ → Agrees scope (slot_at p later) out σ τ

  -- no values that agree with the slots have C
  abbrev pub Never : List (List ℕ) → List Held → (Choice → Times → Type 0) → Type 0
  Never seen held C = (σ : Choice) (τ : Times) → IsFitting scope σ → Agrees scope (slot_at p seen) held σ τ → C σ τ → ⊥

  -- what the slots hold tells which values have C, and these marks are left
  abbrev pub Reads : List (List ℕ) → List (List ℕ) → List Held → List (Option ℕ) → (Choice → Times → Type 0) → Option State → Type 0
  Reads seen later held rest C None = Never seen held C
  Reads seen later held rest C (Some s) = (s.marks ≡ rest) × Ends seen later held C s.held

  -- the same, without marks
  abbrev pub Gives : List (List ℕ) → List (List ℕ) → List Held → (Choice → Times → Type 0) → Option (List Held) → Type 0
  Gives seen later held C None = Never seen held C
  Gives seen later held C (Some out) = Ends seen later held C out

  -- a value that was there
  pub ends_same : (seen : List (List ℕ)) (held : List Held) (C : Choice → Times → Type 0) → Start seen held → ((σ : Choice) (τ : Times) → Agrees scope (slot_at p seen) held σ τ → C σ τ) → Ends seen seen held C held
  ends_same seen held C s f = record { new = []; is = sym (append-nil held); start = s; back = λ σ τ a. (a, f σ τ a); forth = λ σ τ a c. a }

  -- a value more
  module _ (b : Binder) (found : find_binder scope (binder_name b) ≡ Some b) (seen : List (List ℕ)) (held : List Held) (s : Start seen held) (h : Held) where
    module _ (free : slot_at p seen (binder_name b) ≡ None) where
      is_binder : (c : Binder) → find_binder scope (binder_name c) ≡ Some c → binder_name c ≡ binder_name b → c ≡ b
      is_binder c i e = let j = subst (λ m. find_binder scope m ≡ Some c) e i in cc

      new_here : (k : ℕ) → k ≡ slot_count p.outer + length seen → slice_get (held ++ h ∷ []) k ≡ Some h
      new_here k e = let q : length held ≡ k = s.counted ∙ sym e in subst (λ j. slice_get (held ++ h ∷ []) j ≡ Some h) q (get_end held h)

      new_counted : length (held ++ h ∷ []) ≡ slot_count p.outer + length (seen ++ binder_name b ∷ [])
      new_counted = omega (arith, s.counted, length-append held (h ∷ []), length-append seen (binder_name b ∷ []))

      new_filled : Suits g tr b h → AreFilled g tr scope (slot_at p (seen ++ binder_name b ∷ [])) (held ++ h ∷ [])
      new_filled suits c k i e = elim (slot_cases p seen (binder_name b) (binder_name c) k free e) [
        | inl old ↦ let r = s.filled c k i old in (r.0, get_kept held (h ∷ []) k r.0 r.1, r.2)
        | inr q ↦ (h, new_here k q.1, subst (λ d. Suits g tr d h) (sym (is_binder c i q.0)) suits)
      ]

      new_back : (σ : Choice) (τ : Times) → Agrees scope (slot_at p (seen ++ binder_name b ∷ [])) (held ++ h ∷ []) σ τ → Agrees scope (slot_at p seen) held σ τ × (h ≡ value σ τ b)
      new_back σ τ a = (
        λ c k i e.
            let r = s.filled c k i e in
            let x = get_kept held (h ∷ []) k r.0 r.1 in
            let y = a c k i (slot_kept p seen (binder_name b) (binder_name c) k free e) in
            let q : r.0 ≡ value σ τ c = cc in
            r.1 ∙ ap (λ z. Some z) q,
        let x = new_here (slot_count p.outer + length seen) refl in
            let y = a b (slot_count p.outer + length seen) found (slot_next p seen (binder_name b) free) in
            cc,
      )

      new_forth : (σ : Choice) (τ : Times) → Agrees scope (slot_at p seen) held σ τ → h ≡ value σ τ b → Agrees scope (slot_at p (seen ++ binder_name b ∷ [])) (held ++ h ∷ []) σ τ
      new_forth σ τ a e c k i l = elim (slot_cases p seen (binder_name b) (binder_name c) k free l) [
        | inl old ↦ get_kept held (h ∷ []) k (value σ τ c) (a c k i old)
        | inr q ↦ new_here k q.1 ∙ ap (λ z. Some z) (e ∙ ap (value σ τ) (sym (is_binder c i q.0)))
      ]

      ends_new : Suits g tr b h → Ends seen (seen ++ binder_name b ∷ []) held (λ σ τ. h ≡ value σ τ b) (held ++ h ∷ [])
      ends_new suits = record { new = h ∷ []; is = refl; start = record { counted = new_counted; filled = new_filled suits }; back = new_back; forth = new_forth }

    -- an occurrence of the binder's name
    pub filled_gives : (fits : Bool) → (fits ≡ true → Suits g tr b h) → ((σ : Choice) (τ : Times) → IsFitting scope σ → h ≡ value σ τ b → fits ≡ true) → Gives seen (noted (slot_at p seen (binder_name b)) seen (binder_name b)) held (λ σ τ. h ≡ value σ τ b) (filled (slot_at p seen (binder_name b)) h fits held)
    filled_gives fits suits fitting = at (slot_at p seen (binder_name b)) refl where
      at : (o : Option ℕ) → slot_at p seen (binder_name b) ≡ o → Gives seen (noted o seen (binder_name b)) held (λ σ τ. h ≡ value σ τ b) (filled o h fits held)
      at None e = elim fits as (λ f. (f ≡ true → Suits g tr b h) → ((σ : Choice) (τ : Times) → IsFitting scope σ → h ≡ value σ τ b → f ≡ true) → Gives seen (noted None seen (binder_name b)) held (λ σ τ. h ≡ value σ τ b) (filled None h f held)) [
        | true ↦ λ x y. ends_new e (x refl)
        | false ↦ λ x y σ τ fit a q. let r = y σ τ fit q in absurd (cc)
      ] suits fitting
      at (Some k) e = elim (is_held (slice_get held k) h) as (λ r. is_held (slice_get held k) h ≡ r → Gives seen seen held (λ σ τ. h ≡ value σ τ b) (if r then Some held else None)) [
        | true ↦ λ r. ends_same seen held (λ σ τ. h ≡ value σ τ b) s (λ σ τ a. let x = get_held (slice_get held k) h r in let y = a b k found e in cc)
        | false ↦ λ r σ τ fit a q.
            let y : slice_get held k ≡ Some h = a b k found e ∙ ap (λ z. Some z) (sym q) in
            let x : is_held (slice_get held k) h ≡ true = ap (λ z. is_held z h) y ∙ is_held_here h in
            absurd (cc)
      ] refl

  -- read from marks
  pub given_reads : (seen later : List (List ℕ)) (held : List Held) (rest : List (Option ℕ)) (C : Choice → Times → Type 0) (o : Option (List Held)) → Gives seen later held C o → Reads seen later held rest C (onward o (λ hs. Some (record { marks = rest; held = hs })))
  given_reads seen later held rest C None r = r
  given_reads seen later held rest C (Some out) r = (refl, r)
