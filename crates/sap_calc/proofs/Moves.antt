-- What changes of parts change in what they stand for.
use Rattle.std.proofs.Common.{◌≡◌, ◌<◌, ℕ, zero, suc, List, [], ◌∷◌, ◌++◌, length, map, Option, Some, None, option_map, unwrap_or, refl, sym, ap, subst, ◌∙◌, arith, Bool, inl, inr, if◌then◌else◌}
use Rattle.std.specs.Prelude.{slice_get, slice_set, All}
use Rattle.std.specs.Str.{bytes_eq}
use Rattle.std.proofs.lemmas.List.{append-nil}
use Rattle.std.proofs.lemmas.List.Elements.{All-nil, All-cons, All-head, All-tail}
use Rattle.sap_terms.specs.Equations.{equations}
use Rattle.sap_terms.specs.Tree.{Tree}
use Rattle.sap_terms.specs.declared.limits.TheConstants.{MOST_TERM_NODES}
use Rattle.sap_terms.specs.declared.var.Var.{Var}
use Rattle.sap_deduce.specs.Entries.{Entries, AreNumbered}
use Rattle.sap_process.specs.Configuration.{Runs, becomes, spawns}
use Rattle.sap_process.specs.Instance.{process_instance}
use Rattle.sap_process.specs.Proc.{Proc}
use Rattle.sap_share.specs.Env.{given, AreSmallForms, IsSmallForm}
use Rattle.sap_share.specs.Shared.{Shared, tree_at, trees_at, AreBelow, Keeps}
use Rattle.sap_share.specs.declared.env.Bound.{Bound}
use Rattle.sap_calc.specs.Running.{configuration}
use Rattle.sap_lines.specs.Places.{proc_at, place_proc, procs_of}
use Rattle.sap_calc.specs.code.Parts.{Parts, AreTied, seen, entry_at, mark_at, IsSmallValue}
use Rattle.sap_calc.specs.code.Threads.{running, all_running, live, IsThread}
use Rattle.sap_heads.specs.Values.{IsSmallNumber}
use Rattle.sap_sides.specs.SharedFacts.{slots_seen, IsSlotBelow, AreSlotsBelow}
use Rattle.sap_sides.specs.declared.shared_fact.SharedFact.{SharedFact}
use Rattle.sap_lines.specs.declared.place.Place.{Place}
use Rattle.sap_calc.specs.declared.thread.Thread.{Thread}
use Rattle.sap_calc.proofs.Numbered.{live_got, got_set, got_last, map_write, map_last, got_map, some_same}

tree_front : (ts us : List Tree) (k : ℕ) → k < length ts → tree_at (ts ++ us) k ≡ tree_at ts k
tree_front [] us k lt = absurd (omega arith)
tree_front (t ∷ ts) us zero lt = refl
tree_front (t ∷ ts) us (suc k) lt = let less : k < length ts = omega arith in tree_front ts us k less

-- more numbers change nothing
module _ (s u : Shared) (h : Keeps s u) where
  pub tree_stays : (k : ℕ) → k < length s.trees → tree_at u.trees k ≡ tree_at s.trees k
  tree_stays k lt = ap (λ ts. tree_at ts k) h.trees ∙ tree_front s.trees h.added k lt

  longer : (k : ℕ) → k < length s.trees → k < length u.trees
  longer k lt = rw h.trees (more s.trees h.added k lt) where
    more : (xs ys : List Tree) (k : ℕ) → k < length xs → k < length (xs ++ ys)
    more [] ys k lt = absurd (omega arith)
    more (x ∷ xs) ys zero lt = omega arith
    more (x ∷ xs) ys (suc k) lt = let less : k < length xs = omega arith in let i = more xs ys k less in omega arith

  pub small_stays : (k : ℕ) → IsSmallNumber s k → IsSmallNumber u k
  small_stays k i =
      let same = tree_stays k i.below in
      record { below = longer k i.below; normal = rw (h.sig, same) i.normal; within = rw same i.within }

  given_at : (env : List Bound) → AreSmallForms (equations s.sig) MOST_TERM_NODES s.trees env → (v : Var) → given u.trees env v ≡ given s.trees env v
  given_at [] small v = refl
  given_at (e ∷ es) small v =
      let P : Bound → Type 0 = λ b. IsSmallForm (equations s.sig) MOST_TERM_NODES s.trees b.id in
      let here = tree_stays e.id (All-head P e es small).below in
      let there = given_at es (All-tail P e es small) v in
      λ i. if bytes_eq e.var.name v.name then here i else there i

  pub given_stays : (env : List Bound) → AreSmallForms (equations s.sig) MOST_TERM_NODES s.trees env → given u.trees env ≡ given s.trees env
  given_stays env small = λ i v. given_at env small v i

  pub env_stays : (env : List Bound) → AreSmallForms (equations s.sig) MOST_TERM_NODES s.trees env → AreSmallForms (equations u.sig) MOST_TERM_NODES u.trees env
  env_stays env small = λ k d lt. small_stays _ (small k d lt)

  pub thread_stays : (places : List Place) (th : Thread) → IsThread s places th → IsThread u places th
  thread_stays places th i = record { below = i.below; above = i.above; sound = rw h.sig i.sound; names = i.names; small = env_stays th.env i.small }

  running_stays : (procs : List Proc) (th : Thread) → AreSmallForms (equations s.sig) MOST_TERM_NODES s.trees th.env → running u.trees procs th ≡ running s.trees procs th
  running_stays procs th small = ap (λ σ. process_instance σ (proc_at procs th.place)) (given_stays th.env small)

  all_running_stay : (places : List Place) (threads : List (Option Thread)) → ((k : ℕ) (th : Thread) → slice_get threads k ≡ Some (Some th) → IsThread s places th)
      → all_running u.trees (procs_of places) threads ≡ all_running s.trees (procs_of places) threads
  all_running_stay places [] i = refl
  all_running_stay places (None ∷ os) i = ap (λ ps. None ∷ ps) (all_running_stay places os (λ k th at. i (suc k) th at))
  all_running_stay places (Some th ∷ os) i =
      let head = running_stays (procs_of places) th (i 0 th refl).small in
      let tail = all_running_stay places os (λ k th at. i (suc k) th at) in
      λ j. Some (head j) ∷ tail j

  value_stays : (o : Option ℕ) → IsSmallValue s o → option_map (tree_at u.trees) o ≡ option_map (tree_at s.trees) o
  value_stays None i = refl
  value_stays (Some k) i = ap Some (tree_stays k (i k refl).below)

  entries_stay : (es : List (ℕ × Option ℕ)) → All (λ (e : ℕ × Option ℕ). IsSmallNumber s e.0) es → All (λ (e : ℕ × Option ℕ). IsSmallValue s e.1) es → map (entry_at u.trees) es ≡ map (entry_at s.trees) es
  entries_stay [] i k = refl
  entries_stay (e ∷ es) i k =
      let P : ℕ × Option ℕ → Type 0 = λ e. IsSmallNumber s e.0 in
      let Q : ℕ × Option ℕ → Type 0 = λ e. IsSmallValue s e.1 in
      let key = tree_stays e.0 (All-head P e es i).below in
      let value = value_stays e.1 (All-head Q e es k) in
      let tail = entries_stay es (All-tail P e es i) (All-tail Q e es k) in
      λ j. (key j, value j) ∷ tail j

  marks_stay : (es : List (ℕ × Bool)) → All (λ (e : ℕ × Bool). IsSmallNumber s e.0) es → map (mark_at u.trees) es ≡ map (mark_at s.trees) es
  marks_stay [] i = refl
  marks_stay (e ∷ es) i =
      let P : ℕ × Bool → Type 0 = λ e. IsSmallNumber s e.0 in
      let key = tree_stays e.0 (All-head P e es i).below in
      let tail = marks_stay es (All-tail P e es i) in
      λ j. (key j, e.1) ∷ tail j

  -- facts too
  args_stay : (ks : List ℕ) → AreBelow (length s.trees) ks → (trees_at u.trees ks ≡ trees_at s.trees ks) × AreBelow (length u.trees) ks
  args_stay [] b = (refl, All-nil (λ (k : ℕ). k < length u.trees))
  args_stay (k ∷ ks) b =
      let P : ℕ → Type 0 = λ j. j < length s.trees in
      let here = All-head P k ks b in
      let is = tree_stays k here in
      let rest = args_stay ks (All-tail P k ks b) in
      let same = rest.0 in
      (λ i. is i ∷ same i, All-cons (λ (j : ℕ). j < length u.trees) k ks (longer k here) rest.1)

  -- and entries
  pub numbers_stay : (k : Entries) → AreNumbered s k → AreNumbered u k
  numbers_stay k i =
      let there = args_stay k.numbers i.below in
      record { sig = h.sig ∙ i.sig; below = there.1; terms = there.0 ∙ i.terms }

  pub slots_stay : (slots : List (Option SharedFact)) → AreSlotsBelow (length s.trees) slots → (slots_seen u.trees slots ≡ slots_seen s.trees slots) × AreSlotsBelow (length u.trees) slots
  slots_stay [] b = (refl, All-nil (IsSlotBelow (length u.trees)))
  slots_stay (None ∷ xs) b =
      let rest = slots_stay xs (All-tail (IsSlotBelow (length s.trees)) None xs b) in
      (ap (λ fs. None ∷ fs) rest.0, All-cons (IsSlotBelow (length u.trees)) None xs tt rest.1)
  slots_stay (Some f ∷ xs) b =
      let args = args_stay f.args (All-head (IsSlotBelow (length s.trees)) (Some f) xs b) in
      let rest = slots_stay xs (All-tail (IsSlotBelow (length s.trees)) (Some f) xs b) in
      let is = args.0 in
      let same = rest.0 in
      (λ i. Some (record { name = f.name; persistent = f.persistent; args = is i }) ∷ same i, All-cons (IsSlotBelow (length u.trees)) (Some f) xs args.1 rest.1)

pub keeps_same : (s : Shared) → Keeps s s
keeps_same s = record { sig = refl; added = []; trees = sym (append-nil s.trees) }

pub keeps_tied : (P : Parts) (u : Shared) → Keeps P.table u → AreTied P → AreTied (record P { table = u })
keeps_tied P u h tied = record {
  numbered = numbers_stay P.table u h P.known tied.numbered;
  places = tied.places;
  threads = λ t th at. thread_stays P.table u h P.places th (tied.threads t th at);
  keys = λ k d lt. small_stays P.table u h _ (tied.keys k d lt);
  values = λ k d lt v is. small_stays P.table u h v (tied.values k d lt v is);
  held = λ k d lt. small_stays P.table u h _ (tied.held k d lt);
  own = tied.own;
  slots = (slots_stay P.table u h P.facts tied.slots).1;
  facts = rw (h.sig, (slots_stay P.table u h P.facts tied.slots).0) tied.facts;
}

pub keeps_seen : (P : Parts) (u : Shared) → Keeps P.table u → AreTied P → seen (record P { table = u }) ≡ seen P
keeps_seen P u h tied =
    let a = all_running_stay P.table u h P.places P.threads tied.threads in
    let b = entries_stay P.table u h P.store tied.keys tied.values in
    let c = marks_stay P.table u h P.held tied.held in
    let d = (slots_stay P.table u h P.facts tied.slots).0 in
    λ i. record { sig = P.known.sig; threads = a i; store = b i; held = c i; facts = d i; made = P.made; known = P.known.entries }

-- a thread is something else from now on
pub sets_tied : (P : Parts) (t : ℕ) (th : Thread) → AreTied P → IsThread P.table P.places th → AreTied (record P { threads = slice_set P.threads t (Some th) })
sets_tied P t th tied new = record {
  numbered = tied.numbered;
  places = tied.places;
  threads = λ k x at. elim (got_set P.threads t (Some th) k (Some x) at) [ inl before ↦ tied.threads k x before | inr same ↦ subst (IsThread P.table P.places) (sym (some_same same)) new ];
  keys = tied.keys;
  values = tied.values;
  held = tied.held;
  own = tied.own;
  slots = tied.slots;
  facts = tied.facts;
}

pub sets_is : (P : Parts) (t : ℕ) (th : Thread)
    → configuration (seen (record P { threads = slice_set P.threads t (Some th) })) ≡ becomes (configuration (seen P)) t (Some (running P.table.trees (procs_of P.places) th))
sets_is P t th = ap (λ ts. record (configuration (seen P)) { threads = ts }) (map_write (λ (o : Option Thread). option_map (running P.table.trees (procs_of P.places)) o) P.threads t (Some th))

pub ends_tied : (P : Parts) (t : ℕ) → AreTied P → AreTied (record P { threads = slice_set P.threads t None })
ends_tied P t tied = record {
  numbered = tied.numbered;
  places = tied.places;
  threads = λ k x at. elim (got_set P.threads t None k (Some x) at) [ inl before ↦ tied.threads k x before | inr same ↦ absurd (none_some same) ];
  keys = tied.keys;
  values = tied.values;
  held = tied.held;
  own = tied.own;
  slots = tied.slots;
  facts = tied.facts;
} where
  none_some : {X : Type 0} {x : X} → Some x ≡ None → ⊥
  none_some h = cc

pub ends_is : (P : Parts) (t : ℕ) → configuration (seen (record P { threads = slice_set P.threads t None })) ≡ becomes (configuration (seen P)) t None
ends_is P t = ap (λ ts. record (configuration (seen P)) { threads = ts }) (map_write (λ (o : Option Thread). option_map (running P.table.trees (procs_of P.places)) o) P.threads t None)

pub adds_tied : (P : Parts) (th : Thread) → AreTied P → IsThread P.table P.places th → AreTied (record P { threads = P.threads ++ Some th ∷ [] })
adds_tied P th tied new = record {
  numbered = tied.numbered;
  places = tied.places;
  threads = λ k x at. elim (got_last P.threads (Some th) k (Some x) at) [ inl before ↦ tied.threads k x before | inr same ↦ subst (IsThread P.table P.places) (sym (some_same same)) new ];
  keys = tied.keys;
  values = tied.values;
  held = tied.held;
  own = tied.own;
  slots = tied.slots;
  facts = tied.facts;
}

pub adds_is : (P : Parts) (th : Thread)
    → configuration (seen (record P { threads = P.threads ++ Some th ∷ [] })) ≡ spawns (configuration (seen P)) (running P.table.trees (procs_of P.places) th)
adds_is P th = ap (λ ts. record (configuration (seen P)) { threads = ts }) (map_last (λ (o : Option Thread). option_map (running P.table.trees (procs_of P.places)) o) P.threads (Some th))

-- what a thread runs
pub runs_thread : (P : Parts) (t : ℕ) (th : Thread) → Some th ≡ live P.threads t → Runs (configuration (seen P)) t (running P.table.trees (procs_of P.places) th)
runs_thread P t th is =
    let f : Option Thread → Option Proc = λ o. option_map (running P.table.trees (procs_of P.places)) o in
    got_map f P.threads t ∙ ap (option_map f) (live_got P.threads t th is)

pub none_runs : (P : Parts) (t : ℕ) → None ≡ live P.threads t → (p : Proc) → Runs (configuration (seen P)) t p → ⊥
none_runs P t is p runs = by P.threads t is runs where
  by : (os : List (Option Thread)) (t : ℕ) → None ≡ unwrap_or (slice_get os t) None → slice_get (all_running P.table.trees (procs_of P.places) os) t ≡ Some (Some p) → ⊥
  by [] t is h = cc
  by (None ∷ os) zero is h = cc
  by (Some th ∷ os) zero is h = cc
  by (o ∷ os) (suc t) is h = by os t is h

-- it is the instance of the place's process
pub running_at : (P : Parts) (th : Thread) (x : Place) → AreTied P → slice_get P.places th.place ≡ Some x
    → running P.table.trees (procs_of P.places) th ≡ process_instance (given P.table.trees th.env) (place_proc (procs_of P.places) x)
running_at P th x tied at = ap (process_instance (given P.table.trees th.env)) (tied.places.procs th.place x at)
