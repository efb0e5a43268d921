-- Lines of a thread that evaluate the terms at the head of its place, test or write, and go on.
use Rattle.std.proofs.Common.{◌≡◌, ◌<◌, ℕ, List, [], ◌∷◌, length, Option, Some, refl, sym, subst, ◌⊎◌, inl, inr, Bool}
use Rattle.std.specs.Prelude.{slice_get}
use Rattle.std.proofs.lemmas.List.Elements.{All-nil}
use Rattle.sap_rewrite.specs.Laws.{FormsDecide}
use Rattle.sap_terms.specs.Choice.{instance}
use Rattle.sap_terms.specs.Ground.{IsGround}
use Rattle.sap_terms.specs.View.{tree}
use Rattle.sap_terms.specs.declared.fact.Fact.{Fact}
use Rattle.sap_terms.specs.declared.term.Term.{Term}
use Rattle.sap_share.specs.Env.{given}
use Rattle.sap_share.specs.Shared.{Shared, tree_at, Keeps, HaveOneNumber}
use Rattle.sap_lines.specs.Faults.{thread_of, no_memory}
use Rattle.sap_lines.specs.Places.{ArePlaced}
use Rattle.sap_lines.specs.declared.fault.PFault.{PFault}
use Rattle.sap_lines.specs.declared.fault.PFault.TheVariants as fault
use Rattle.sap_lines.specs.declared.place.Place.{Place}
use Rattle.sap_heads.specs.Values.{IsSmallNumber, CanEvaluate, IsValueFault}
use Rattle.sap_sides.specs.SharedFacts.{IsSlotBelow}
use Rattle.sap_calc.specs.Running.{IsDone, IsDenied}
use Rattle.sap_calc.specs.code.HeadLines.{line_of, next_of, HasOne, HasTwo, StandsAt, IsOneAsked, AreTwoAsked, IsAsked, IsUnasked, nobody, other_form, one_fails, two_fail, Passes, Fails, values_after, marks_after}
use Rattle.sap_calc.specs.code.Parts.{Parts, AreTied, seen, IsSmallValue}
use Rattle.sap_calc.specs.code.Threads.{IsThread}
use Rattle.sap_calc.specs.declared.head_line.Asked.{Asked}
use Rattle.sap_calc.specs.declared.head_line.HeadLine.{HeadLine}
use Rattle.sap_calc.specs.declared.head_line.HeadLine.TheVariants.{Agree, Differ, Store, Clear, Miss, Hold, Release}
use Rattle.sap_calc.specs.declared.thread.Thread.{Thread}
use Rattle.sap_calc.proofs.Compares.{can_left, can_right, then_large, else_large, then_tied, else_tied, then_line, else_line, then_denied, else_denied}
use Rattle.sap_calc.proofs.Goes.{gone}
use Rattle.sap_calc.proofs.Lines.{no_thread, wrong_form}
use Rattle.sap_calc.proofs.Writes.{insert_can_left, insert_can_right, insert_large, insert_tied, insert_line, delete_can, delete_large, delete_tied, delete_line, lock_can, lock_large, lock_tied, lock_denied, lock_line, unlock_can, unlock_large, unlock_tied, unlock_line, lookup_can, missing_large, missing_tied, missing_denied, missing_line}

-- parts with nothing but terms, places and threads
abbrev pub standing : Shared → List Place → List (Option Thread) → Parts
standing s places threads = record {
  table = s;
  places = places;
  threads = threads;
  store = [];
  held = [];
  facts = [];
  made = [];
  own = [];
  known = record { sig = s.sig; entries = []; numbers = [] };
}

pub standing_tied : (s : Shared) (places : List Place) (threads : List (Option Thread)) → ArePlaced places
    → ((k : ℕ) (th : Thread) → slice_get threads k ≡ Some (Some th) → IsThread s places th) → AreTied (standing s places threads)
standing_tied s places threads placed tied = record {
  numbered = record { sig = refl; below = All-nil (λ (k : ℕ). k < length s.trees); terms = refl };
  places = placed;
  threads = tied;
  keys = All-nil (λ (e : ℕ × Option ℕ). IsSmallNumber s e.0);
  values = All-nil (λ (e : ℕ × Option ℕ). IsSmallValue s e.1);
  held = All-nil (λ (e : ℕ × Bool). IsSmallNumber s e.0);
  own = refl;
  slots = All-nil (IsSlotBelow (length s.trees));
  facts = λ k f h. cc;
}

names_thread : (l : HeadLine) (t : ℕ) → thread_of (line_of l t) ≡ Some t
names_thread Agree t = refl
names_thread Differ t = refl
names_thread Store t = refl
names_thread Clear t = refl
names_thread Miss t = refl
names_thread Hold t = refl
names_thread Release t = refl

module _ (P : Parts) (t : ℕ) (th : Thread) (x : Place) (tied : AreTied P) (s : StandsAt P.places P.threads t th x) where
  -- the terms at the head can be evaluated
  module _ (grounds : (k : ℕ) → k < length P.table.trees → IsGround (tree_at P.table.trees k)) where
    pub one_can : (l : HeadLine) (m : Term) → HasOne l x.form m → CanEvaluate P.table th.env (tree m)
    one_can Agree m h = absurd h
    one_can Differ m h = absurd h
    one_can Store m h = absurd h
    one_can Clear m h = delete_can P t th x tied s.runs s.at m h grounds
    one_can Miss m h = lookup_can P t th x tied s.runs s.at m h.0 h.1 grounds
    one_can Hold m h = lock_can P t th x tied s.runs s.at m h.0 h.1 grounds
    one_can Release m h = unlock_can P t th x tied s.runs s.at m h.0 h.1 grounds

    pub first_can : (l : HeadLine) (m n : Term) → HasTwo l x.form m n → CanEvaluate P.table th.env (tree m)
    first_can Agree m n h = can_left P t th x tied s.runs s.at m n h grounds
    first_can Differ m n h = can_left P t th x tied s.runs s.at m n h grounds
    first_can Store m n h = insert_can_left P t th x tied s.runs s.at m n h grounds
    first_can Clear m n h = absurd h
    first_can Miss m n h = absurd h
    first_can Hold m n h = absurd h
    first_can Release m n h = absurd h

    pub second_can : (l : HeadLine) (m n : Term) → HasTwo l x.form m n → CanEvaluate P.table th.env (tree n)
    second_can Agree m n h = can_right P t th x tied s.runs s.at m n h grounds
    second_can Differ m n h = can_right P t th x tied s.runs s.at m n h grounds
    second_can Store m n h = insert_can_right P t th x tied s.runs s.at m n h grounds
    second_can Clear m n h = absurd h
    second_can Miss m n h = absurd h
    second_can Hold m n h = absurd h
    second_can Release m n h = absurd h

  -- why they aren't is why the line is refused
  one_denied : (l : HeadLine) (m : Term) (f : PFault) → HasOne l x.form m → IsValueFault P.table.sig (instance (given P.table.trees th.env) (tree m) ∷ []) f → IsDenied (seen P) (line_of l t) f
  one_denied Agree m f h v = absurd h
  one_denied Differ m f h v = absurd h
  one_denied Store m f h v = absurd h
  one_denied Clear m f h v = delete_large P t th x tied s.runs s.at m h f v
  one_denied Miss m f h v = missing_large P t th x tied s.runs s.at m h.0 h.1 f v
  one_denied Hold m f h v = lock_large P t th x tied s.runs s.at m h.0 h.1 f v
  one_denied Release m f h v = unlock_large P t th x tied s.runs s.at m h.0 h.1 f v

  two_denied : (l : HeadLine) (m n : Term) (f : PFault) → HasTwo l x.form m n
      → IsValueFault P.table.sig (instance (given P.table.trees th.env) (tree m) ∷ instance (given P.table.trees th.env) (tree n) ∷ []) f → IsDenied (seen P) (line_of l t) f
  two_denied Agree m n f h v = then_large P t th x tied s.runs s.at m n h f v
  two_denied Differ m n f h v = else_large P t th x tied s.runs s.at m n h f v
  two_denied Store m n f h v = insert_large P t th x tied s.runs s.at m n h f v
  two_denied Clear m n f h v = absurd h
  two_denied Miss m n f h v = absurd h
  two_denied Hold m n f h v = absurd h
  two_denied Release m n f h v = absurd h

  module _ (u : Shared) (keeps : Keeps P.table u) (once : HaveOneNumber u.trees (length u.trees)) where
    -- a test that fails is why the line is refused
    fails_denied : (l : HeadLine) (a : Asked) → IsOneAsked P.table u th.env l x.form a.first ⊎ AreTwoAsked P.table u th.env l x.form a.first a.second → FormsDecide
        → (f : PFault) → Fails l a P.store P.held f → IsDenied (seen P) (line_of l t) f
    fails_denied Agree a (inl o) decide f off = absurd o.head
    fails_denied Agree a (inr o) decide f off = rw off.0 (then_denied P t th x tied s.runs s.at o.left o.right o.head u keeps a.first a.second o.values decide once off.1)
    fails_denied Differ a (inl o) decide f off = absurd o.head
    fails_denied Differ a (inr o) decide f off = rw off.0 (else_denied P t th x tied s.runs s.at o.left o.right o.head u keeps a.first a.second o.values decide off.1)
    fails_denied Store a o decide f off = absurd off
    fails_denied Clear a o decide f off = absurd off
    fails_denied Miss a (inl o) decide f off = rw off.0 (missing_denied P t th x tied s.runs s.at o.term o.head.0 o.head.1 u keeps a.first o.value once off.1.0 off.1.1)
    fails_denied Miss a (inr o) decide f off = absurd o.head
    fails_denied Hold a (inl o) decide f off = rw off.0 (lock_denied P t th x tied s.runs s.at o.term o.head.0 o.head.1 u keeps a.first o.value once off.1)
    fails_denied Hold a (inr o) decide f off = absurd o.head
    fails_denied Release a o decide f off = absurd off

    -- what is there then is tied
    goes_tied : (l : HeadLine) (a : Asked) → IsOneAsked P.table u th.env l x.form a.first ⊎ AreTwoAsked P.table u th.env l x.form a.first a.second
        → AreTied (record (gone P u t th (next_of l x)) { store = values_after l a P.store; held = marks_after l a P.held })
    goes_tied Agree a (inl o) = absurd o.head
    goes_tied Agree a (inr o) = then_tied P t th x tied s.runs s.at o.left o.right o.head u keeps a.first a.second o.values
    goes_tied Differ a (inl o) = absurd o.head
    goes_tied Differ a (inr o) = else_tied P t th x tied s.runs s.at o.left o.right o.head u keeps a.first a.second o.values
    goes_tied Store a (inl o) = absurd o.head
    goes_tied Store a (inr o) = insert_tied P t th x tied s.runs s.at o.left o.right o.head u keeps a.first a.second o.values once
    goes_tied Clear a (inl o) = delete_tied P t th x tied s.runs s.at o.term o.head u keeps a.first o.value once
    goes_tied Clear a (inr o) = absurd o.head
    goes_tied Miss a (inl o) = missing_tied P t th x tied s.runs s.at o.term o.head.0 o.head.1 u keeps a.first o.value once
    goes_tied Miss a (inr o) = absurd o.head
    goes_tied Hold a (inl o) = lock_tied P t th x tied s.runs s.at o.term o.head.0 o.head.1 u keeps a.first o.value once
    goes_tied Hold a (inr o) = absurd o.head
    goes_tied Release a (inl o) = unlock_tied P t th x tied s.runs s.at o.term o.head.0 o.head.1 u keeps a.first o.value once
    goes_tied Release a (inr o) = absurd o.head

    -- and the line is done
    goes_line : (l : HeadLine) (a : Asked) → IsOneAsked P.table u th.env l x.form a.first ⊎ AreTwoAsked P.table u th.env l x.form a.first a.second → Passes l a P.store P.held
        → (label : List Fact) → label ≡ [] → IsDone (seen P) (seen (record (gone P u t th (next_of l x)) { store = values_after l a P.store; held = marks_after l a P.held })) (line_of l t) label
    goes_line Agree a (inl o) holds label silent = absurd o.head
    goes_line Agree a (inr o) holds label silent = then_line P t th x tied s.runs s.at o.left o.right o.head u keeps a.first a.second o.values label silent holds
    goes_line Differ a (inl o) holds label silent = absurd o.head
    goes_line Differ a (inr o) holds label silent = else_line P t th x tied s.runs s.at o.left o.right o.head u keeps a.first a.second o.values label silent once holds
    goes_line Store a (inl o) holds label silent = absurd o.head
    goes_line Store a (inr o) holds label silent = insert_line P t th x tied s.runs s.at o.left o.right o.head u keeps a.first a.second o.values once label silent
    goes_line Clear a (inl o) holds label silent = delete_line P t th x tied s.runs s.at o.term o.head u keeps a.first o.value once label silent
    goes_line Clear a (inr o) holds label silent = absurd o.head
    goes_line Miss a (inl o) holds label silent = missing_line P t th x tied s.runs s.at o.term o.head.0 o.head.1 u keeps a.first o.value once label silent holds
    goes_line Miss a (inr o) holds label silent = absurd o.head
    goes_line Hold a (inl o) holds label silent = lock_line P t th x tied s.runs s.at o.term o.head.0 o.head.1 u keeps a.first o.value once label silent holds
    goes_line Hold a (inr o) holds label silent = absurd o.head
    goes_line Release a (inl o) holds label silent = unlock_line P t th x tied s.runs s.at o.term o.head.0 o.head.1 u keeps a.first o.value once label silent
    goes_line Release a (inr o) holds label silent = absurd o.head

pub unasked_denied : (P : Parts) (t : ℕ) (tied : AreTied P) (l : HeadLine) (f : PFault) → IsUnasked P.table P.places P.threads t l f → IsDenied (seen P) (line_of l t) f
unasked_denied P t tied l f (nobody none) = no_thread P (line_of l t) t (names_thread l t) none
unasked_denied P t tied l f (other_form th x s lacks) = wrong_form P (line_of l t) t th x (names_thread l t) tied s.runs s.at lacks
unasked_denied P t tied l f (one_fails th x m s h v) = one_denied P t th x tied s l m f h v
unasked_denied P t tied l f (two_fail th x m n s h v) = two_denied P t th x tied s l m n f h v

module _ (P : Parts) (t : ℕ) (tied : AreTied P) (l : HeadLine) (u : Shared) (keeps : Keeps P.table u) (once : HaveOneNumber u.trees (length u.trees)) (a : Asked) (i : IsAsked P.table u P.places P.threads t l a) where
  -- the test fails, or memory is wanting
  pub asked_denied : FormsDecide → (f : PFault) → (f ≡ fault.Mem) ⊎ Fails l a P.store P.held f → IsDenied (seen P) (line_of l t) f
  asked_denied decide f (inl none) = rw none (no_memory (line_of l t))
  asked_denied decide f (inr off) = fails_denied P t i.thread i.place tied i.stands u keeps once l a i.values decide f off

  pub asked_tied : AreTied (record (gone P u t i.thread a.next) { store = values_after l a P.store; held = marks_after l a P.held })
  asked_tied =
      subst (λ (n : ℕ). AreTied (record (gone P u t i.thread n) { store = values_after l a P.store; held = marks_after l a P.held })) (sym i.next) (goes_tied P t i.thread i.place tied i.stands u keeps once l a i.values)

  pub asked_line : Passes l a P.store P.held → (label : List Fact) → label ≡ []
      → IsDone (seen P) (seen (record (gone P u t i.thread a.next) { store = values_after l a P.store; held = marks_after l a P.held })) (line_of l t) label
  asked_line holds label silent =
      subst (λ (n : ℕ). IsDone (seen P) (seen (record (gone P u t i.thread n) { store = values_after l a P.store; held = marks_after l a P.held })) (line_of l t) label) (sym i.next) (goes_line P t i.thread i.place tied i.stands u keeps once l a i.values holds label silent)
