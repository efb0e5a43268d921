-- The run of the sample is legal, whatever the number of its sessions.
use Rattle.std.proofs.Common.{◌≡◌, ◌≤◌, ◌⊎◌, inl, inr, ℕ, zero, suc, List, [], ◌∷◌, ◌++◌, length, true, false, Option, Some, None, refl, sym, ap, subst, ◌∙◌, arith, append_assoc, slice_get, slice_set, lit≤}
use Rattle.std.specs.Prelude.{codes, Contains}
use Rattle.std.proofs.lemmas.List.{length-append}
use Rattle.std.proofs.lemmas.List.Elements.{Contains-append_cases}
use Rattle.sap_terms.proofs.PlainLaws.Items.{item_cases}
use Rattle.sap_terms.specs.AdversaryFacts.{linear}
use Rattle.sap_terms.specs.Choice.{Choice}
use Rattle.sap_terms.specs.Equal.{same}
use Rattle.sap_terms.specs.Equations.{equations}
use Rattle.sap_terms.specs.Laws.{DestructorsHeadLeftSides, LeavesAreNormal, NamesAreMessages}
use Rattle.sap_terms.specs.Message.{IsMessage}
use Rattle.sap_terms.specs.Normal.{IsNormal, IsNormalForm}
use Rattle.sap_terms.specs.Signature.{Sig}
use Rattle.sap_terms.specs.Subterms.{SomeSubterm, itself, below, here, later}
use Rattle.sap_terms.specs.Trace.{Trace, shown}
use Rattle.sap_terms.specs.Tree.{Tree, public, fresh, variable, more, none}
use Rattle.sap_terms.specs.declared.fact.Fact.{Fact}
use Rattle.sap_terms.specs.declared.var.Sort.{Sort}
use Rattle.sap_terms.specs.declared.var.Sort.TheVariants.{Msg, Fresh, Pub}
use Rattle.sap_rewrite.specs.Laws.{FormIsOne}
use Rattle.sap_process.specs.Configuration.{Config, Runs, becomes, initial, makes, sends_out, spawns, stores, holding, IsUnused}
use Rattle.sap_process.specs.Proc.{Proc, nil, act, replicated}
use Rattle.sap_process.specs.Action.{out, input, event, insert, lock, unlock}
use Rattle.sap_process.specs.ProcessSteps.{Fits}
use Rattle.sap_runs.specs.Inner.{InnerAction}
use Rattle.sap_runs.specs.Limits.{HasFewNodes}
use Rattle.sap_runs.specs.Marks.{Mark, marks_of}
use Rattle.sap_runs.specs.declared.process_step.PStep.{PStep}
use Rattle.sap_runs.specs.declared.process_step.PStep.TheVariants as line
use Rattle.sap_lines.specs.Lines.{IsProcessLine, EvaluateWithin}
use Rattle.sap_lines.specs.Runs.{IsLegalProcessRun}
use Rattle.sap_read.specs.Files.{FileContent}
use Rattle.sap_forward.specs.Converted.{IsShownByLines}
use Rattle.sap_replay.specs.Sample.{session_message, store_key, hash_of, got_message, session, sample_lines, session_process, told_sample}

-- the signature of the sample
abbrev sig : Sig
sig = told_sample.signature

-- what is got_message, and what stays, where one item of a list is set or put last
got_last : {X : Type 0} (xs : List X) (x : X) (n : ℕ) → length xs ≡ n → slice_get (xs ++ x ∷ []) n ≡ Some x
got_last [] x zero h = refl
got_last [] x (suc n) h = cc
got_last (y ∷ ys) x zero h = cc
got_last (y ∷ ys) x (suc n) h = let less : length ys ≡ n = omega (arith, h) in got_last ys x n less

got_before : {X : Type 0} (xs ys : List X) (x : X) (n : ℕ) → slice_get xs n ≡ Some x → slice_get (xs ++ ys) n ≡ Some x
got_before [] ys x n h = cc
got_before (z ∷ zs) ys x zero h = h
got_before (z ∷ zs) ys x (suc n) h = got_before zs ys x n h

got_set : {X : Type 0} (xs : List X) (x y : X) (n : ℕ) → slice_get xs n ≡ Some y → slice_get (slice_set xs n x) n ≡ Some x
got_set [] x y n h = cc
got_set (z ∷ zs) x y zero h = refl
got_set (z ∷ zs) x y (suc n) h = got_set zs x y n h

first_stays : {X : Type 0} (xs : List X) (x y : X) (n : ℕ) → slice_get xs 0 ≡ Some y → slice_get (slice_set xs (suc n) x) 0 ≡ Some y
first_stays [] x y n h = h
first_stays (z ∷ zs) x y n h = h

as_long : {X : Type 0} (xs : List X) (x : X) (n : ℕ) → length (slice_set xs n x) ≡ length xs
as_long [] x n = refl
as_long (z ∷ zs) x zero = refl
as_long (z ∷ zs) x (suc n) = ap suc (as_long zs x n)

one_more : {X : Type 0} (xs : List X) (x : X) (n : ℕ) → length xs ≡ n → length (xs ++ x ∷ []) ≡ suc n
one_more xs x n h = let l = length-append xs (x ∷ []) in omega (arith, h, l)

-- nine items, put one behind the other
nine : {X : Type 0} (xs : List X) (a b c d e f h i j : X)
    → ((((((((xs ++ a ∷ []) ++ b ∷ []) ++ c ∷ []) ++ d ∷ []) ++ e ∷ []) ++ f ∷ []) ++ h ∷ []) ++ i ∷ []) ++ j ∷ []
    ≡ xs ++ a ∷ b ∷ c ∷ d ∷ e ∷ f ∷ h ∷ i ∷ j ∷ []
nine xs a b c d e f h i j =
    append_assoc _ (i ∷ []) (j ∷ []) ∙ append_assoc _ (h ∷ []) (i ∷ j ∷ []) ∙ append_assoc _ (f ∷ []) (h ∷ i ∷ j ∷ [])
    ∙ append_assoc _ (e ∷ []) (f ∷ h ∷ i ∷ j ∷ []) ∙ append_assoc _ (d ∷ []) (e ∷ f ∷ h ∷ i ∷ j ∷ [])
    ∙ append_assoc _ (c ∷ []) (d ∷ e ∷ f ∷ h ∷ i ∷ j ∷ []) ∙ append_assoc _ (b ∷ []) (c ∷ d ∷ e ∷ f ∷ h ∷ i ∷ j ∷ [])
    ∙ append_assoc xs (a ∷ []) (b ∷ c ∷ d ∷ e ∷ f ∷ h ∷ i ∷ j ∷ [])

-- what is left of a session whose name is n: behind `new`, and behind each action in turn
abbrev got_hash : ℕ → Fact
got_hash n = linear (codes "Got") (hash_of (fresh n) ∷ [])

abbrev showing : ℕ → Proc
showing n = act (event (got_hash n)) nil

abbrev receiving : Proc
receiving = act (input (variable session_message)) (act (event got_message) nil)

abbrev sending : ℕ → Proc
sending n = act (out (hash_of (fresh n))) receiving

abbrev unlocking : ℕ → Proc
unlocking n = act (unlock store_key 1) (sending n)

abbrev inserting : ℕ → Proc
inserting n = act (insert store_key (fresh n)) (unlocking n)

abbrev locking : ℕ → Proc
locking n = act (lock store_key 1) (inserting n)

-- a hash of the name n for each variable of any message, and names for the others
abbrev of_sort : ℕ → Sort → Tree
of_sort n Msg = hash_of (fresh n)
of_sort n Fresh = fresh n
of_sort n Pub = public []

abbrev hash_for_all : ℕ → Choice
hash_for_all n v = of_sort n v.sort

-- what there is behind so many sessions: the process, and a thread for each, which has ended; a name for each, and an entry; and
-- nothing is held
pub record IsBehind (m : ℕ) (c : Config) (es : List Tree) : Type 0 where
  pub runs : Runs c 0 (replicated (session_process 1))
  pub threads : length c.threads ≡ suc m
  pub made : (k : ℕ) → Contains c.made k → k ≤ m
  pub own : c.own ≡ []
  pub free : c.held store_key ≡ false
  pub entries : length es ≡ m

-- the lines are legal, and lead there
pub record IsLegalTo (lines : List PStep) (c : Config) (es : List Tree) : Type 0 where
  pub trace : Trace
  pub marks : List Mark
  pub legal : IsLegalProcessRun sig HasFewNodes (replicated (session_process 1)) lines c es trace marks

-- one line more
onwards : {lines : List PStep} {c d : Config} {es fs : List Tree} (step : PStep) (inner : List InnerAction) (label : List Fact)
    → IsLegalTo lines c es → IsProcessLine sig HasFewNodes c es step inner label d fs → IsLegalTo (lines ++ step ∷ []) d fs
onwards step inner label run possible = record {
  trace = run.trace ++ shown label;
  marks = run.marks ++ marks_of inner label;
  legal = IsLegalProcessRun.further step inner label run.legal possible;
}

module _ (leaves : LeavesAreNormal) (names : NamesAreMessages) (destructors : DestructorsHeadLeftSides) (one : FormIsOne) where
  own_form : (t : Tree) → IsNormal (equations sig) t → IsNormalForm (equations sig) t t
  own_form t normal = record { equal = same; normal = normal }

  hash_is_normal : (n : ℕ) → IsNormal (equations sig) (hash_of (fresh n))
  hash_is_normal n =
      leaves.of_symbol (equations sig) (codes "h") (more (fresh n) none) (λ d. let e = (destructors sig (codes "h")).1 d in cc)
      (leaves.of_fresh_name (equations sig) n, tt)

  public_form : (s : List ℕ) → IsNormalForm (equations sig) (public s) (public s)
  public_form s = own_form (public s) (leaves.of_public_name (equations sig) s)

  fresh_form : (n : ℕ) → IsNormalForm (equations sig) (fresh n) (fresh n)
  fresh_form n = own_form (fresh n) (leaves.of_fresh_name (equations sig) n)

  hash_form : (n : ℕ) → IsNormalForm (equations sig) (hash_of (fresh n)) (hash_of (fresh n))
  hash_form n = own_form (hash_of (fresh n)) (hash_is_normal n)

  -- a form is as small as the term, where that is its own
  small_form : (t u : Tree) → HasFewNodes t → IsNormalForm (equations sig) t t → IsNormalForm (equations sig) t u → HasFewNodes u
  small_form t u few own form = subst HasFewNodes (one (equations sig) t t u own form) few

  abbrev HasForm : Tree → Tree → Type 0
  HasForm u t = IsNormalForm (equations sig) t u

  in_public : (s : List ℕ) (u : Tree) → SomeSubterm (HasForm u) (public s) → HasFewNodes u
  in_public s u (itself h) = small_form (public s) u (lit≤ tt) (public_form s) h

  in_fresh : (n : ℕ) (u : Tree) → SomeSubterm (HasForm u) (fresh n) → HasFewNodes u
  in_fresh n u (itself h) = small_form (fresh n) u (lit≤ tt) (fresh_form n) h

  in_hash : (n : ℕ) (u : Tree) → SomeSubterm (HasForm u) (hash_of (fresh n)) → HasFewNodes u
  in_hash n u (itself h) = small_form (hash_of (fresh n)) u (lit≤ tt) (hash_form n) h
  in_hash n u (below (here h)) = in_fresh n u h
  in_hash n u (below (later h)) = elim h [ ]

  -- what a session evaluates is small
  store_key_small : EvaluateWithin sig HasFewNodes (store_key ∷ [])
  store_key_small u (here h) = in_public (codes "r") u h
  store_key_small u (later h) = elim h [ ]

  store_key_and_name_small : (n : ℕ) → EvaluateWithin sig HasFewNodes (store_key ∷ fresh n ∷ [])
  store_key_and_name_small n u (here h) = in_public (codes "r") u h
  store_key_and_name_small n u (later (here h)) = in_fresh n u h
  store_key_and_name_small n u (later (later h)) = elim h [ ]

  hash_small : (n : ℕ) → EvaluateWithin sig HasFewNodes (hash_of (fresh n) ∷ [])
  hash_small n u (here h) = in_hash n u h
  hash_small n u (later h) = elim h [ ]

  hash_is_message : (n : ℕ) (s : Sort) → IsMessage sig s (of_sort n s)
  hash_is_message n Msg = record { ground = (tt, tt); over = (refl, (tt, tt)); normal = hash_is_normal n; sorted = refl }
  hash_is_message n Fresh = names.fresh_name sig Fresh n refl
  hash_is_message n Pub = names.public_name sig Pub [] refl

  hash_fits : (n : ℕ) → Fits sig (hash_for_all n) (variable session_message) (hash_of (fresh n))
  hash_fits n = record { messages = λ v. hash_is_message n v.sort; equal = same }

  unused : (m : ℕ) (c : Config) (es : List Tree) → IsBehind m c es → IsUnused c (suc m)
  unused m c es at = (
    (λ h. let most = at.made (suc m) h in omega (arith, most)),
    (λ h. let none : Contains [] (suc m) = subst (λ (ks : List ℕ). Contains ks (suc m)) at.own h in omega (arith, none.1)),
  )

  made_behind : (m : ℕ) (made : List ℕ) → ((k : ℕ) → Contains made k → k ≤ m) → (k : ℕ) → Contains (made ++ suc m ∷ []) k → k ≤ suc m
  made_behind m made h k c = by (Contains-append_cases made (suc m ∷ []) k c) where
    by : Contains made k ⊎ Contains (suc m ∷ []) k → k ≤ suc m
    by (inl c) = let most = h k c in omega (arith, most)
    by (inr c) = let e = item_cases (suc m) k c in omega (arith, e)

  -- one session more
  module _ (m : ℕ) (lines : List PStep) (c : Config) (es : List Tree) (run : IsLegalTo lines c es) (at : IsBehind m c es) where
    abbrev copied : Config
    copied = spawns c (session_process 1)

    abbrev with_name : Config
    with_name = makes (becomes copied (suc m) (Some (locking (suc m)))) (suc m)

    abbrev in_lock : Config
    in_lock = holding (becomes with_name (suc m) (Some (inserting (suc m)))) store_key true

    abbrev stored : Config
    stored = stores (becomes in_lock (suc m) (Some (unlocking (suc m)))) store_key (Some (fresh (suc m)))

    abbrev behind_lock : Config
    behind_lock = holding (becomes stored (suc m) (Some (sending (suc m)))) store_key false

    abbrev sent : Config
    sent = sends_out (becomes behind_lock (suc m) (Some receiving)) (hash_of (fresh (suc m)))

    abbrev received : Config
    received = becomes sent (suc m) (Some (showing (suc m)))

    abbrev told : Config
    told = becomes received (suc m) (Some nil)

    abbrev ended : Config
    ended = becomes told (suc m) None

    abbrev entries_behind : List Tree
    entries_behind = es ++ hash_of (fresh (suc m)) ∷ []

    starts : Runs copied (suc m) (session_process 1)
    starts = got_last c.threads (Some (session_process 1)) (suc m) at.threads

    -- the thread runs as it is set
    runs_on : (ts : List (Option Proc)) (p q : Proc) → slice_get ts (suc m) ≡ Some (Some p) → slice_get (slice_set ts (suc m) (Some q)) (suc m) ≡ Some (Some q)
    runs_on ts p q h = got_set ts (Some q) (Some p) (suc m) h

    runs_locking : Runs with_name (suc m) (locking (suc m))
    runs_locking = runs_on copied.threads (session_process 1) (locking (suc m)) starts

    runs_inserting : Runs in_lock (suc m) (inserting (suc m))
    runs_inserting = runs_on with_name.threads (locking (suc m)) (inserting (suc m)) runs_locking

    runs_unlocking : Runs stored (suc m) (unlocking (suc m))
    runs_unlocking = runs_on in_lock.threads (inserting (suc m)) (unlocking (suc m)) runs_inserting

    runs_sending : Runs behind_lock (suc m) (sending (suc m))
    runs_sending = runs_on stored.threads (unlocking (suc m)) (sending (suc m)) runs_unlocking

    runs_receiving : Runs sent (suc m) receiving
    runs_receiving = runs_on behind_lock.threads (sending (suc m)) receiving runs_sending

    runs_showing : Runs received (suc m) (showing (suc m))
    runs_showing = runs_on sent.threads receiving (showing (suc m)) runs_receiving

    runs_nothing : Runs told (suc m) nil
    runs_nothing = runs_on received.threads (showing (suc m)) nil runs_showing

    legal_nine : IsLegalTo ((((((((((lines ++ line.Rep 0 ∷ []) ++ line.New (suc m) (suc m) ∷ []) ++ line.Lock (suc m) ∷ []) ++ line.Insert (suc m) ∷ []) ++ line.Unlock (suc m) ∷ []) ++ line.Out (suc m) ∷ []) ++ line.In (suc m) m ∷ []) ++ line.Event (suc m) ∷ []) ++ line.Nil (suc m) ∷ [])) ended entries_behind
    legal_nine =
        let first : IsLegalTo _ copied es = onwards (line.Rep 0) [] [] run (IsProcessLine.copies 0 at.runs) in
        let second : IsLegalTo _ with_name es = onwards (line.New (suc m) (suc m)) [] [] first (IsProcessLine.makes_name (suc m) (suc m) starts (unused m c es at)) in
        let third : IsLegalTo _ in_lock es = onwards (line.Lock (suc m)) _ [] second (IsProcessLine.locks (suc m) runs_locking (public_form (codes "r")) at.free store_key_small) in
        let fourth : IsLegalTo _ stored es = onwards (line.Insert (suc m)) _ [] third (IsProcessLine.inserts (suc m) runs_inserting (public_form (codes "r")) (fresh_form (suc m)) (store_key_and_name_small (suc m))) in
        let fifth : IsLegalTo _ behind_lock es = onwards (line.Unlock (suc m)) _ [] fourth (IsProcessLine.unlocks (suc m) runs_unlocking (public_form (codes "r")) store_key_small) in
        let sixth : IsLegalTo _ sent entries_behind = onwards (line.Out (suc m)) [] [] fifth (IsProcessLine.outputs (suc m) runs_sending (hash_form (suc m)) (hash_small (suc m))) in
        let seventh : IsLegalTo _ received entries_behind = onwards (line.In (suc m) m) [] _ sixth (IsProcessLine.inputs (suc m) m (hash_for_all (suc m)) runs_receiving (got_last es (hash_of (fresh (suc m))) m at.entries) (hash_fits (suc m))) in
        let eighth : IsLegalTo _ told entries_behind = onwards (line.Event (suc m)) [] (got_hash (suc m) ∷ []) seventh (IsProcessLine.shows (suc m) runs_showing (record { name = refl; persistent = refl; args = (hash_form (suc m), tt) }) (hash_small (suc m))) in
        onwards (line.Nil (suc m)) [] [] eighth (IsProcessLine.ends (suc m) runs_nothing)

    first_still : (ts : List (Option Proc)) (o : Option Proc) (p : Proc) → slice_get ts 0 ≡ Some (Some p) → slice_get (slice_set ts (suc m) o) 0 ≡ Some (Some p)
    first_still ts o p h = first_stays ts o (Some p) m h

    first_runs : Runs ended 0 (replicated (session_process 1))
    first_runs =
        first_still told.threads None _ (first_still received.threads (Some nil) _ (first_still sent.threads (Some (showing (suc m))) _
        (first_still behind_lock.threads (Some receiving) _ (first_still stored.threads (Some (sending (suc m))) _ (first_still in_lock.threads (Some (unlocking (suc m))) _
        (first_still with_name.threads (Some (inserting (suc m))) _ (first_still copied.threads (Some (locking (suc m))) _
        (got_before c.threads (Some (session_process 1) ∷ []) _ 0 at.runs))))))))

    threads_behind : length ended.threads ≡ suc (suc m)
    threads_behind =
        as_long told.threads None (suc m) ∙ as_long received.threads (Some nil) (suc m) ∙ as_long sent.threads (Some (showing (suc m))) (suc m)
        ∙ as_long behind_lock.threads (Some receiving) (suc m) ∙ as_long stored.threads (Some (sending (suc m))) (suc m)
        ∙ as_long in_lock.threads (Some (unlocking (suc m))) (suc m) ∙ as_long with_name.threads (Some (inserting (suc m))) (suc m)
        ∙ as_long copied.threads (Some (locking (suc m))) (suc m) ∙ one_more c.threads (Some (session_process 1)) (suc m) at.threads

    session_is_legal : IsLegalTo (lines ++ session m) ended entries_behind
    session_is_legal =
        subst (λ (ls : List PStep). IsLegalTo ls ended entries_behind)
        (nine lines (line.Rep 0) (line.New (suc m) (suc m)) (line.Lock (suc m)) (line.Insert (suc m)) (line.Unlock (suc m)) (line.Out (suc m)) (line.In (suc m) m) (line.Event (suc m)) (line.Nil (suc m)))
        legal_nine

    session_leads : IsBehind (suc m) ended entries_behind
    session_leads = record {
      runs = first_runs;
      threads = threads_behind;
      made = made_behind m c.made at.made;
      own = at.own;
      free = refl;
      entries = one_more es (hash_of (fresh (suc m))) m at.entries;
    }

  -- so are all of them
  legal_to : (n : ℕ) → (c : Config) × (es : List Tree) × IsLegalTo (sample_lines n) c es × IsBehind n c es
  legal_to zero = (
    initial (replicated (session_process 1)),
    [],
    record { trace = []; marks = []; legal = IsLegalProcessRun.starts },
    record {
      runs = refl;
      threads = refl;
      made = λ k h. omega (arith, h.1);
      own = refl;
      free = refl;
      entries = refl;
    },
  )
  legal_to (suc m) =
      let before = legal_to m in (
        ended m (sample_lines m) before.0 before.1 before.2 before.3,
        entries_behind m (sample_lines m) before.0 before.1 before.2 before.3,
        session_is_legal m (sample_lines m) before.0 before.1 before.2 before.3,
        session_leads m (sample_lines m) before.0 before.1 before.2 before.3,
      )

  -- they have a trace
  pub legal : (n : ℕ) → (tr : Trace) × IsShownByLines sig (replicated (session_process 1)) (sample_lines n) tr
  legal n =
      let run = legal_to n in
      (run.2.trace, record { config = run.0; entries = run.1; marks = run.2.marks; legal = run.2.legal })

-- so is a run of these lines of a file that tells this
pub shown_of_file : (f : FileContent) (lines : List PStep) (n : ℕ) (tr : Trace) → f ≡ told_sample → lines ≡ sample_lines n
    → IsShownByLines told_sample.signature told_sample.process (sample_lines n) tr → IsShownByLines f.signature f.process lines tr
shown_of_file f lines n tr is_file are_lines shown_so =
    subst (λ (h : FileContent). IsShownByLines h.signature h.process lines tr) (sym is_file)
    (subst (λ (ls : List PStep). IsShownByLines told_sample.signature told_sample.process ls tr) (sym are_lines) shown_so)
