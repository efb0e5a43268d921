-- The first configuration: one thread at the root.
use Rattle.std.proofs.Common.{◌≡◌, ℕ, zero, suc, List, [], ◌∷◌, length, Option, Some, None, refl, sym, ap, subst, ◌∙◌}
use Rattle.std.specs.Prelude.{Bool, false, slice_get}
use Rattle.std.proofs.lemmas.List.Elements.{All-nil}
use Rattle.sap_terms.specs.Equations.{equations}
use Rattle.sap_terms.specs.Signature.{Sig}
use Rattle.sap_terms.specs.Tree.{variable}
use Rattle.sap_terms.specs.declared.limits.TheConstants.{MOST_TERM_NODES}
use Rattle.sap_deduce.specs.Entries.{Entries, AreNumbered}
use Rattle.sap_process.specs.Configuration.{initial}
use Rattle.sap_process.specs.Ready.{IsReady}
use Rattle.sap_process.specs.Instance.{process_instance}
use Rattle.sap_process.specs.Proc.{Proc}
use Rattle.sap_process.specs.Sites.{above_of}
use Rattle.sap_share.specs.Env.{IsSmallForm}
use Rattle.sap_share.specs.Shared.{Shared}
use Rattle.sap_share.specs.declared.env.Bound.{Bound}
use Rattle.sap_sides.specs.SharedFacts.{IsSlotBelow}
use Rattle.sap_calc.specs.Running.{configuration}
use Rattle.sap_lines.specs.Places.{IsRooted, proc_at, procs_of}
use Rattle.sap_calc.specs.code.Parts.{Parts, AreTied, seen, IsSmallValue}
use Rattle.sap_calc.specs.code.Threads.{IsThread}
use Rattle.sap_heads.specs.Values.{IsSmallNumber}
use Rattle.sap_lines.specs.declared.place.Place.{Place}
use Rattle.sap_calc.specs.declared.thread.Thread.{Thread}
use Rattle.sap_calc.proofs.Sounds.{sound_root}

-- the parts of a configuration of one thread
abbrev pub first_parts : Shared → List Place → ℕ → Entries → Parts
first_parts s places root k = record { table = s; places = places; threads = Some (record { place = root; env = [] }) ∷ []; store = []; held = []; facts = []; made = []; own = []; known = k }

pub first_tied : (g : Sig) (p : Proc) (s : Shared) (places : List Place) (root : ℕ) (k : Entries) → IsReady g p → IsRooted places root p → s.sig ≡ g → AreNumbered s k → k.entries ≡ [] → AreTied (first_parts s places root k)
first_tied g p s places root k ready rooted sig numbered none = record {
  numbered = numbered;
  places = rooted.places;
  threads = only;
  keys = All-nil (λ (e : ℕ × Option ℕ). IsSmallNumber s e.0);
  values = All-nil (λ (e : ℕ × Option ℕ). IsSmallValue s e.1);
  held = All-nil (λ (e : ℕ × Bool). IsSmallNumber s e.0);
  own = rw none refl;
  slots = All-nil (IsSlotBelow (length s.trees));
  facts = λ k f here. cc;
} where
  first : IsThread s places (record { place = root; env = [] })
  first = record {
    below = rooted.below;
    above = above_of [] 0;
    sound = rw (sig, rooted.proc) (sound_root g p ready);
    names = refl;
    small = All-nil (λ (b : Bound). IsSmallForm (equations s.sig) MOST_TERM_NODES s.trees b.id);
  }

  only : (t : ℕ) (th : Thread) → slice_get (Some (record { place = root; env = [] }) ∷ []) t ≡ Some (Some th) → IsThread s places th
  only zero th h =
      let one : Thread = record { place = root; env = [] } in
      let same : one ≡ th = cc in
      subst (IsThread s places) same first
  only (suc t) th h = cc

pub first_is : (g : Sig) (p : Proc) (s : Shared) (places : List Place) (root : ℕ) (k : Entries) → ((q : Proc) → process_instance (λ v. variable v) q ≡ q) → IsRooted places root p → k.entries ≡ [] → configuration (seen (first_parts s places root k)) ≡ initial p
first_is g p s places root k law rooted none =
    let run : process_instance (λ v. variable v) (proc_at (procs_of places) root) ≡ p = rw rooted.proc (law p) in
    let P = first_parts s places root k in
    let known : configuration (seen P) ≡ configuration (record (seen P) { known = [] }) = ap (λ es. configuration (record (seen P) { known = es })) none in
    let runs : configuration (record (seen P) { known = [] }) ≡ initial p = λ i. record { made = []; own = []; store = λ x. None; facts = []; threads = Some (run i) ∷ []; frame = []; held = λ x. false } in
    known ∙ runs

-- the same of parts that are these
module _ (P : Parts) (root : ℕ) (threads : P.threads ≡ Some (record { place = root; env = [] }) ∷ []) (store : P.store ≡ []) (held : P.held ≡ []) (facts : P.facts ≡ []) (made : P.made ≡ []) (own : P.own ≡ []) where
  are_first : P ≡ first_parts P.table P.places root P.known
  are_first = λ i. record { table = P.table; places = P.places; threads = threads i; store = store i; held = held i; facts = facts i; made = made i; own = own i; known = P.known }

  pub start_tied : (g : Sig) (p : Proc) → IsReady g p → IsRooted P.places root p → P.table.sig ≡ g → AreNumbered P.table P.known → P.known.entries ≡ [] → AreTied P
  start_tied g p ready rooted sig numbered none = subst AreTied (sym are_first) (first_tied g p P.table P.places root P.known ready rooted sig numbered none)

  pub start_is : (g : Sig) (p : Proc) → ((q : Proc) → process_instance (λ v. variable v) q ≡ q) → IsRooted P.places root p → P.known.entries ≡ [] → configuration (seen P) ≡ initial p
  start_is g p law rooted none = ap (λ Q. configuration (seen Q)) are_first ∙ first_is g p P.table P.places root P.known law rooted none
