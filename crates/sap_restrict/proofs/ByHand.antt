-- The seven formulas on small traces.
use Rattle.std.proofs.Common.{◌≡◌, ℕ, zero, suc, ◌<◌, ◌≤◌, ◌⊎◌, List, [], ◌∷◌, true, false, refl, sym, ap, subst, ◌∙◌, inl, inr, arith}
use Rattle.std.specs.Prelude.{codes}
use Rattle.std.specs.Str.{bytes_eq}
use Rattle.std.proofs.lemmas.List.Elements.{All-cons, All-nil}
use Rattle.sap_formula.specs.Examples.{a, b}
use Rattle.sap_formula.specs.Truth.{EachIn, IsTrueOn}
use Rattle.sap_restrict.proofs.Admissions.{carried}
use Rattle.sap_restrict.proofs.Elements.{all_of_each, first_of, first_or_behind, none_in}
use Rattle.sap_restrict.proofs.Meaning.{meaning_law}
use Rattle.sap_restrict.specs.Examples.{one_by_one, started, started_twice, same_found_equal, different_found_equal, different_found_different, same_found_different, stored_found, deleted_found, replaced_found, found_before, deleted_missed, stored_missed, other_missed, locked_again, locked_while_held, known_input, unknown_input, input_twice, input_after_event, input_not_last}
use Rattle.sap_shapes.specs.ReservedFacts.{delete_fact, eq_fact, event_fact, init_fact, input_fact, insert_fact, is_in_fact, is_not_set_fact, lock_fact, not_eq_fact, unlock_fact}
use Rattle.sap_restrict.specs.Sentences.{EachEqual, EachFound, EachLock, EachMissed, EachServed, EachUnequal, InitOnce, Says}
use Rattle.sap_restrict.specs.Shown.{HasAlike}
use Rattle.sap_restrict.specs.Standard.{standard}
use Rattle.sap_shapes.specs.Formulas.{each_equal, each_found, each_lock, each_missed, each_served, each_unequal, one_start}
use Rattle.sap_restrict.specs.declared.which.Which.{Which}
use Rattle.sap_restrict.specs.declared.which.Which.TheVariants.{Eq, In, InEv, Init, Lock, NotEq, NotIn}
use Rattle.sap_rewrite.specs.Laws.{NormalTermsDecide}
use Rattle.sap_terms.specs.AdversaryFacts.{k_fact}
use Rattle.sap_terms.specs.Equal.{IsTheoryEqual, same as no_step}
use Rattle.sap_terms.specs.Equations.{Equations, equations}
use Rattle.sap_terms.proofs.PlainLaws.Tests.{same_name}
use Rattle.sap_terms.specs.FactNames.{delete_name, event_name, in_event_name, insert_name, is_in_name, is_not_set_name, k_name, lock_name, unlock_name}
use Rattle.sap_terms.specs.Laws.{NamesAreMessages}
use Rattle.sap_terms.specs.Message.{AreMessageFacts, IsMessage, IsMessageFact, IsMessageTrace}
use Rattle.sap_terms.specs.Same.{same_tree}
use Rattle.sap_terms.specs.Signature.{Sig}
use Rattle.sap_terms.specs.Tree.{Tree}
use Rattle.sap_terms.specs.declared.fact.Fact.{Fact}
use Rattle.sap_terms.specs.declared.var.Sort.TheVariants.{Msg}

-- the fact at this time of such a trace has the name and the arguments
abbrev At : List Fact → ℕ → Fact → Type 0
At [] k f = ⊥
At (h ∷ fs) zero f = (h.name ≡ f.name) × (h.args ≡ f.args)
At (h ∷ fs) (suc k) f = At fs k f

alike_at : (fs : List Fact) (k : ℕ) (f : Fact) → HasAlike (one_by_one fs) k f → At fs k f
alike_at [] k f s = none_in s.0 s.1
alike_at (h ∷ fs) zero f s =
    elim (first_or_behind h [] s.0 s.1) [
      | inl e ↦ (ap (λ (x : Fact). x.name) e ∙ s.2, ap (λ (x : Fact). x.args) e ∙ s.3)
      | inr c ↦ absurd (none_in s.0 c)
    ]
alike_at (h ∷ fs) (suc k) f s = alike_at fs k f s

at_alike : (fs : List Fact) (k : ℕ) (f : Fact) → At fs k f → HasAlike (one_by_one fs) k f
at_alike [] k f s = absurd s
at_alike (h ∷ fs) zero f s = (h, first_of h [], s.0, s.1)
at_alike (h ∷ fs) (suc k) f s = at_alike fs k f s

are_messages : (g : Sig) (fs : List Fact) → EachIn (λ (f : Fact). EachIn (IsMessage g Msg) f.args) fs → IsMessageTrace g (one_by_one fs)
are_messages g [] m = All-nil (AreMessageFacts g)
are_messages g (f ∷ fs) m =
    All-cons (AreMessageFacts g) (f ∷ []) (one_by_one fs) (All-cons (IsMessageFact g) f [] (all_of_each (IsMessage g Msg) f.args m.0) (All-nil (IsMessageFact g))) (are_messages g fs m.1)

-- what is true of such a trace is the sentence
module _ (decide : NormalTermsDecide) (g : Sig) (fs : List Fact) (m : EachIn (λ (f : Fact). EachIn (IsMessage g Msg) f.args) fs) where
  pub is_true : (w : Which) → Says (equations g) (At fs) w → IsTrueOn g (standard w) (one_by_one fs)
  is_true w h =
      (meaning_law decide w g (one_by_one fs) (are_messages g fs m)).1
      (carried (equations g) (At fs) (HasAlike (one_by_one fs)) (λ k f r p s. at_alike fs k f s) (λ k f r p s. alike_at fs k f s) w h)

  pub says : (w : Which) → IsTrueOn g (standard w) (one_by_one fs) → Says (equations g) (At fs) w
  says w h =
      carried (equations g) (HasAlike (one_by_one fs)) (At fs) (λ k f r p s. alike_at fs k f s) (λ k f r p s. at_alike fs k f s) w
      ((meaning_law decide w g (one_by_one fs) (are_messages g fs m)).0 h)

never : true ≡ false → ⊥
never q = cc

-- names that the test tells apart
apart : (m n : List ℕ) → bytes_eq m n ≡ false → m ≡ n → ⊥
apart m n e p = never (sym (same_name n) ∙ subst (λ x. bytes_eq x n ≡ false) p e)

b_is_not_a : b ≡ a → ⊥
b_is_not_a p = never (ap (λ t. same_tree t b) p)

one : (x u : Tree) → x ∷ [] ≡ u ∷ [] → x ≡ u
one x u p = cc

first : (x y u v : Tree) → x ∷ y ∷ [] ≡ u ∷ v ∷ [] → x ≡ u
first x y u v p = cc

second : (x y u v : Tree) → x ∷ y ∷ [] ≡ u ∷ v ∷ [] → y ≡ v
second x y u v p = cc

init_true : InitOnce (At (init_fact ∷ []))
init_true zero zero s t = refl
init_true zero (suc j) s t = absurd t
init_true (suc i) j s t = absurd s

init_false : ¬ InitOnce (At (init_fact ∷ init_fact ∷ []))
init_false h = go 0 1 (h 0 1 (refl, refl) (refl, refl)) (omega arith) where
  go : (i j : ℕ) → i ≡ j → i < j → ⊥
  go i j e l = omega arith

eq_true : (e : Equations) → EachEqual e (At (eq_fact a a ∷ []))
eq_true e x y zero s = subst (λ z. IsTheoryEqual e x z) (sym (first a a x y s.1) ∙ second a a x y s.1) no_step
eq_true e x y (suc i) s = absurd s

noteq_false : (e : Equations) → ¬ EachUnequal e (At (not_eq_fact a a ∷ []))
noteq_false e h = h a a 0 (refl, refl) no_step

found_true : EachFound (At (insert_fact a b ∷ is_in_fact a b ∷ []))
found_true x v zero s = absurd (apart insert_name is_in_name refl s.0)
found_true x v (suc (suc i)) s = absurd s
found_true x v (suc zero) s = (
  0,
  record {
    inserted = (refl, s.1);
    before = omega arith;
    deletes = λ k d. no_delete k d;
    inserts = λ z k d. inserts z k d;
  },
) where
  no_delete : (k : ℕ) → At (insert_fact a b ∷ is_in_fact a b ∷ []) k (delete_fact x) → (k < 0) ⊎ (1 < k)
  no_delete zero d = absurd (apart insert_name delete_name refl d.0)
  no_delete (suc zero) d = absurd (apart is_in_name delete_name refl d.0)
  no_delete (suc (suc k)) d = absurd d

  inserts : (z : Tree) (k : ℕ) → At (insert_fact a b ∷ is_in_fact a b ∷ []) k (insert_fact x z) → (k ≤ 0) ⊎ (1 < k)
  inserts z zero d = inl (omega arith)
  inserts z (suc zero) d = absurd (apart is_in_name insert_name refl d.0)
  inserts z (suc (suc k)) d = absurd d

deleted_false : ¬ EachFound (At (insert_fact a b ∷ delete_fact a ∷ is_in_fact a b ∷ []))
deleted_false h =
    let r = h a b 2 (refl, refl) in
    let l = r.1.before in
    elim (r.1.deletes 1 (refl, refl)) [ inl n ↦ omega arith | inr n ↦ omega arith ]

replaced_false : ¬ EachFound (At (insert_fact a a ∷ insert_fact a b ∷ is_in_fact a a ∷ []))
replaced_false h = let r = h a a 2 (refl, refl) in elim (r.1.inserts b 1 (refl, refl)) [ inl n ↦ go r.0 r.1.inserted n r.1.before | inr n ↦ omega arith ] where
  go : (j : ℕ) → At (insert_fact a a ∷ insert_fact a b ∷ is_in_fact a a ∷ []) j (insert_fact a a) → 1 ≤ j → j < 2 → ⊥
  go zero s l m = omega arith
  go (suc zero) s l m = b_is_not_a (second a b a a s.1)
  go (suc (suc j)) s l m = omega arith

before_false : ¬ EachFound (At (is_in_fact a b ∷ insert_fact a b ∷ []))
before_false h = let r = h a b 0 (refl, refl) in let l = r.1.before in omega arith

missed_true : EachMissed (At (insert_fact a b ∷ delete_fact a ∷ is_not_set_fact a ∷ []))
missed_true x y zero j s t l = absurd (apart insert_name is_not_set_name refl s.0)
missed_true x y (suc zero) j s t l = absurd (apart delete_name is_not_set_name refl s.0)
missed_true x y (suc (suc zero)) zero s t l = (1, (refl, s.1), omega arith, omega arith)
missed_true x y (suc (suc zero)) (suc zero) s t l = absurd (apart delete_name insert_name refl t.0)
missed_true x y (suc (suc zero)) (suc (suc zero)) s t l = absurd (apart is_not_set_name insert_name refl t.0)
missed_true x y (suc (suc zero)) (suc (suc (suc j))) s t l = absurd t
missed_true x y (suc (suc (suc i))) j s t l = absurd s

other_true : EachMissed (At (insert_fact a b ∷ is_not_set_fact b ∷ []))
other_true x y zero j s t l = absurd (apart insert_name is_not_set_name refl s.0)
other_true x y (suc zero) zero s t l = absurd (b_is_not_a (one b x s.1 ∙ sym (first a b x y t.1)))
other_true x y (suc zero) (suc zero) s t l = absurd (apart is_not_set_name insert_name refl t.0)
other_true x y (suc zero) (suc (suc j)) s t l = absurd t
other_true x y (suc (suc i)) j s t l = absurd s

missed_false : ¬ EachMissed (At (insert_fact a b ∷ is_not_set_fact a ∷ []))
missed_false h =
    let r = h a b 1 0 (refl, refl) (refl, refl) (omega arith) in
    let l = r.2 in
    let m = r.3 in
    omega arith

lock_true : EachLock (At (lock_fact a b ∷ unlock_fact a b ∷ lock_fact b b ∷ []))
lock_true l m x zero zero s t o = absurd (omega arith)
lock_true l m x zero (suc zero) s t o = absurd (apart unlock_name lock_name refl t.0)
lock_true l m x zero (suc (suc zero)) s t o = (1, (refl, s.1), omega arith, omega arith)
lock_true l m x zero (suc (suc (suc j))) s t o = absurd t
lock_true l m x (suc zero) j s t o = absurd (apart unlock_name lock_name refl s.0)
lock_true l m x (suc (suc zero)) zero s t o = absurd (omega arith)
lock_true l m x (suc (suc zero)) (suc zero) s t o = absurd (omega arith)
lock_true l m x (suc (suc zero)) (suc (suc zero)) s t o = absurd (omega arith)
lock_true l m x (suc (suc zero)) (suc (suc (suc j))) s t o = absurd t
lock_true l m x (suc (suc (suc i))) j s t o = absurd s

lock_false : ¬ EachLock (At (lock_fact a b ∷ unlock_fact b b ∷ lock_fact b b ∷ []))
lock_false h = let r = h a b b 0 2 (refl, refl) (refl, refl) (omega arith) in go r.0 r.1 r.2 r.3 where
  go : (k : ℕ) → At (lock_fact a b ∷ unlock_fact b b ∷ lock_fact b b ∷ []) k (unlock_fact a b) → 0 < k → k < 2 → ⊥
  go zero s l m = omega arith
  go (suc zero) s l m = b_is_not_a (first b b a b s.1)
  go (suc (suc k)) s l m = omega arith

served_true : EachServed (At (k_fact a ∷ input_fact a ∷ []))
served_true x zero s = absurd (apart k_name in_event_name refl s.0)
served_true x (suc (suc i)) s = absurd s
served_true x (suc zero) s = (
  0,
  record {
    known = (refl, s.1);
    before = omega arith;
    last = λ y k d. last y k d;
    events = λ k d. no_event k d;
    inputs = λ y k d. inputs y k d;
  },
) where
  last : (y : Tree) (k : ℕ) → At (k_fact a ∷ input_fact a ∷ []) k (k_fact y) → (k ≤ 0) ⊎ (1 < k)
  last y zero d = inl (omega arith)
  last y (suc zero) d = absurd (apart in_event_name k_name refl d.0)
  last y (suc (suc k)) d = absurd d

  no_event : (k : ℕ) → At (k_fact a ∷ input_fact a ∷ []) k event_fact → (k < 0) ⊎ (1 < k)
  no_event zero d = absurd (apart k_name event_name refl d.0)
  no_event (suc zero) d = absurd (apart in_event_name event_name refl d.0)
  no_event (suc (suc k)) d = absurd d

  inputs : (y : Tree) (k : ℕ) → At (k_fact a ∷ input_fact a ∷ []) k (input_fact y) → (k < 0) ⊎ (1 ≤ k)
  inputs y zero d = absurd (apart k_name in_event_name refl d.0)
  inputs y (suc k) d = inr (omega arith)

unknown_false : ¬ EachServed (At (input_fact a ∷ []))
unknown_false h = let r = h a 0 (refl, refl) in let l = r.1.before in omega arith

twice_false : ¬ EachServed (At (k_fact a ∷ input_fact a ∷ input_fact a ∷ []))
twice_false h =
    let r = h a 2 (refl, refl) in
    let l = r.1.before in
    elim (r.1.inputs a 1 (refl, refl)) [ inl n ↦ omega arith | inr n ↦ omega arith ]

event_false : ¬ EachServed (At (k_fact a ∷ event_fact ∷ input_fact a ∷ []))
event_false h =
    let r = h a 2 (refl, refl) in
    let l = r.1.before in
    elim (r.1.events 1 (refl, refl)) [ inl n ↦ omega arith | inr n ↦ omega arith ]

not_last_false : ¬ EachServed (At (k_fact a ∷ k_fact b ∷ input_fact a ∷ []))
not_last_false h = let r = h a 2 (refl, refl) in elim (r.1.last b 1 (refl, refl)) [ inl n ↦ go r.0 r.1.known n r.1.before | inr n ↦ omega arith ] where
  go : (j : ℕ) → At (k_fact a ∷ k_fact b ∷ input_fact a ∷ []) j (k_fact a) → 1 ≤ j → j < 2 → ⊥
  go zero s l m = omega arith
  go (suc zero) s l m = b_is_not_a (one b a s.1)
  go (suc (suc j)) s l m = omega arith

module _ (names : NamesAreMessages) (decide : NormalTermsDecide) (g : Sig) where
  message_a : IsMessage g Msg a
  message_a = names.public_name g Msg (codes "a") refl

  message_b : IsMessage g Msg b
  message_b = names.public_name g Msg (codes "b") refl

  differ : IsTheoryEqual (equations g) a b → ⊥
  differ h = b_is_not_a (sym ((decide (equations g) a b message_a.normal message_b.normal).0 h))

  noteq_true : EachUnequal (equations g) (At (not_eq_fact a b ∷ []))
  noteq_true x y zero s h =
      differ (subst (λ z. IsTheoryEqual (equations g) z b) (sym (first a b x y s.1)) (subst (λ z. IsTheoryEqual (equations g) x z) (sym (second a b x y s.1)) h))
  noteq_true x y (suc i) s h = absurd s

  eq_false : ¬ EachEqual (equations g) (At (eq_fact a b ∷ []))
  eq_false h = differ (h a b 0 (refl, refl))

  -- the messages of facts on one or two of them
  on_a : EachIn (IsMessage g Msg) (a ∷ [])
  on_a = (message_a, tt)

  on_b : EachIn (IsMessage g Msg) (b ∷ [])
  on_b = (message_b, tt)

  on_aa : EachIn (IsMessage g Msg) (a ∷ a ∷ [])
  on_aa = (message_a, on_a)

  on_ab : EachIn (IsMessage g Msg) (a ∷ b ∷ [])
  on_ab = (message_a, on_b)

  on_bb : EachIn (IsMessage g Msg) (b ∷ b ∷ [])
  on_bb = (message_b, on_b)

  pub by_hand_started : IsTrueOn g one_start started
  by_hand_started = is_true decide g (init_fact ∷ []) (tt, tt) Init init_true

  pub by_hand_started_twice : ¬ IsTrueOn g one_start started_twice
  by_hand_started_twice h = init_false (says decide g (init_fact ∷ init_fact ∷ []) (tt, (tt, tt)) Init h)

  pub by_hand_equal : IsTrueOn g each_equal same_found_equal
  by_hand_equal = is_true decide g (eq_fact a a ∷ []) (on_aa, tt) Eq (eq_true (equations g))

  pub by_hand_equal_false : ¬ IsTrueOn g each_equal different_found_equal
  by_hand_equal_false h = eq_false (says decide g (eq_fact a b ∷ []) (on_ab, tt) Eq h)

  pub by_hand_unequal : IsTrueOn g each_unequal different_found_different
  by_hand_unequal = is_true decide g (not_eq_fact a b ∷ []) (on_ab, tt) NotEq noteq_true

  pub by_hand_unequal_false : ¬ IsTrueOn g each_unequal same_found_different
  by_hand_unequal_false h = noteq_false (equations g) (says decide g (not_eq_fact a a ∷ []) (on_aa, tt) NotEq h)

  pub by_hand_found : IsTrueOn g each_found stored_found
  by_hand_found = is_true decide g (insert_fact a b ∷ is_in_fact a b ∷ []) (on_ab, (on_ab, tt)) In found_true

  pub by_hand_deleted_found : ¬ IsTrueOn g each_found deleted_found
  by_hand_deleted_found h = deleted_false (says decide g (insert_fact a b ∷ delete_fact a ∷ is_in_fact a b ∷ []) (on_ab, (on_a, (on_ab, tt))) In h)

  pub by_hand_replaced_found : ¬ IsTrueOn g each_found replaced_found
  by_hand_replaced_found h = replaced_false (says decide g (insert_fact a a ∷ insert_fact a b ∷ is_in_fact a a ∷ []) (on_aa, (on_ab, (on_aa, tt))) In h)

  pub by_hand_found_before : ¬ IsTrueOn g each_found found_before
  by_hand_found_before h = before_false (says decide g (is_in_fact a b ∷ insert_fact a b ∷ []) (on_ab, (on_ab, tt)) In h)

  pub by_hand_missed : IsTrueOn g each_missed deleted_missed
  by_hand_missed = is_true decide g (insert_fact a b ∷ delete_fact a ∷ is_not_set_fact a ∷ []) (on_ab, (on_a, (on_a, tt))) NotIn missed_true

  pub by_hand_other_missed : IsTrueOn g each_missed other_missed
  by_hand_other_missed = is_true decide g (insert_fact a b ∷ is_not_set_fact b ∷ []) (on_ab, (on_b, tt)) NotIn other_true

  pub by_hand_stored_missed : ¬ IsTrueOn g each_missed stored_missed
  by_hand_stored_missed h = missed_false (says decide g (insert_fact a b ∷ is_not_set_fact a ∷ []) (on_ab, (on_a, tt)) NotIn h)

  pub by_hand_locked_again : IsTrueOn g each_lock locked_again
  by_hand_locked_again = is_true decide g (lock_fact a b ∷ unlock_fact a b ∷ lock_fact b b ∷ []) (on_ab, (on_ab, (on_bb, tt))) Lock lock_true

  pub by_hand_locked_while_held : ¬ IsTrueOn g each_lock locked_while_held
  by_hand_locked_while_held h = lock_false (says decide g (lock_fact a b ∷ unlock_fact b b ∷ lock_fact b b ∷ []) (on_ab, (on_bb, (on_bb, tt))) Lock h)

  pub by_hand_known_input : IsTrueOn g each_served known_input
  by_hand_known_input = is_true decide g (k_fact a ∷ input_fact a ∷ []) (on_a, (on_a, tt)) InEv served_true

  pub by_hand_unknown_input : ¬ IsTrueOn g each_served unknown_input
  by_hand_unknown_input h = unknown_false (says decide g (input_fact a ∷ []) (on_a, tt) InEv h)

  pub by_hand_input_twice : ¬ IsTrueOn g each_served input_twice
  by_hand_input_twice h = twice_false (says decide g (k_fact a ∷ input_fact a ∷ input_fact a ∷ []) (on_a, (on_a, (on_a, tt))) InEv h)

  pub by_hand_input_after_event : ¬ IsTrueOn g each_served input_after_event
  by_hand_input_after_event h = event_false (says decide g (k_fact a ∷ event_fact ∷ input_fact a ∷ []) (on_a, (tt, (on_a, tt))) InEv h)

  pub by_hand_input_not_last : ¬ IsTrueOn g each_served input_not_last
  by_hand_input_not_last h = not_last_false (says decide g (k_fact a ∷ k_fact b ∷ input_fact a ∷ []) (on_a, (on_b, (on_a, tt))) InEv h)
