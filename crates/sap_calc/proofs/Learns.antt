-- What the adversary does by itself.
use Rattle.std.proofs.Common.{◌≡◌, ℕ, List, [], ◌∷◌, ◌++◌, suc, length, filter, Some, refl, sym, ap, ◌∙◌, ◌⊎◌, inl, inr}
use Rattle.std.specs.Prelude.{slice_get, Contains}
use Rattle.std.proofs.lemmas.List.{append-nil, map-append}
use Rattle.std.proofs.lemmas.List.Elements.{filter_map-append, filter-append}
use Rattle.sap_terms.specs.AdversaryFacts.{k_fact}
use Rattle.sap_terms.specs.Tree.{Tree, public, fresh}
use Rattle.sap_terms.specs.declared.fact.Fact.{Fact}
use Rattle.sap_deduce.specs.Entries.{Entry, Entries, AreNumbered, Gains, Applies, IsCause, terms_of, names_given, outputs_given, name_of, is_output}
use Rattle.sap_deduce.specs.declared.deny.Deny.{Deny}
use Rattle.sap_deduce.specs.declared.deny.Deny.TheVariants.{Mem, NotPublic, Arity, NoEntry, TermLarge}
use Rattle.sap_deduce.specs.declared.origin.Origin.{Origin}
use Rattle.sap_deduce.specs.declared.origin.Origin.TheVariants.{Name, Public, Apply}
use Rattle.sap_process.specs.Configuration.{owns}
use Rattle.sap_runs.specs.declared.process_step.PStep.TheVariants as line
use Rattle.sap_lines.specs.Faults.{no_memory, used_own, not_public, other_arity, unknown_argument, large_application}
use Rattle.sap_lines.specs.Lines.{names, writes, applies, knows}
use Rattle.sap_calc.specs.Running.{configuration, IsDone, IsDenied}
use Rattle.sap_lines.specs.declared.fault.PFault.TheVariants as fault
use Rattle.sap_calc.specs.code.Denied.{denied_fault}
use Rattle.sap_calc.specs.code.Parts.{Parts, AreTied, seen}

abbrev entry : Tree → Origin → Entry
entry t o = record { term = t; origin = o }

terms_more : (es : List Entry) (t : Tree) (o : Origin) → terms_of (es ++ entry t o ∷ []) ≡ terms_of es ++ t ∷ []
terms_more es t o = map-append (λ (e : Entry). e.term) es (entry t o ∷ [])

count_terms : (es : List Entry) → length (terms_of es) ≡ length es
count_terms [] = refl
count_terms (e ∷ es) = ap suc (count_terms es)

-- an entry that is no name and wasn't sent changes no configuration
module _ (P : Parts) (k : Entries) (t : Tree) (o : Origin) (gains : Gains P.known k o t) (no_name : names_given (record { term = t; origin = o } ∷ []) ≡ []) (not_sent : outputs_given (record { term = t; origin = o } ∷ []) ≡ []) where
  same_names : names_given k.entries ≡ names_given P.known.entries
  same_names =
      ap names_given gains.entries ∙ filter_map-append (λ (e : Entry). name_of e.origin) P.known.entries (entry t o ∷ []) ∙ ap (λ ns. names_given P.known.entries ++ ns) no_name ∙ append-nil (names_given P.known.entries)

  same_outputs : outputs_given k.entries ≡ outputs_given P.known.entries
  same_outputs =
      ap outputs_given gains.entries
      ∙ ap terms_of (filter-append (λ (e : Entry). is_output e.origin) P.known.entries (entry t o ∷ []))
      ∙ map-append (λ (e : Entry). e.term) (filter (λ (e : Entry). is_output e.origin) P.known.entries) (filter (λ (e : Entry). is_output e.origin) (entry t o ∷ []))
      ∙ ap (λ ts. outputs_given P.known.entries ++ ts) not_sent
      ∙ append-nil (outputs_given P.known.entries)

  pub learns_is : configuration (seen (record P { known = k })) ≡ configuration (seen P)
  learns_is = λ i. record (configuration (seen P)) { own = same_names i; frame = same_outputs i }

  pub learns_tied : AreNumbered P.table k → AreTied P → AreTied (record P { known = k })
  learns_tied numbered tied = record {
    numbered = numbered;
    places = tied.places;
    threads = tied.threads;
    keys = tied.keys;
    values = tied.values;
    held = tied.held;
    own = tied.own ∙ sym same_names;
    slots = tied.slots;
    facts = tied.facts;
  }

  pub learns_terms : terms_of k.entries ≡ terms_of P.known.entries ++ t ∷ []
  learns_terms = ap terms_of gains.entries ∙ terms_more P.known.entries t o

pub public_line : (P : Parts) (k : Entries) (a name : List ℕ) (label : List Fact) → name ≡ a → Gains P.known k Public (public name) → label ≡ [] → IsDone (seen P) (seen (record P { known = k })) (line.Public a) label
public_line P k a name label same gains silent =
    let after = learns_is P k (public name) Public gains refl refl in
    let entries = learns_terms P k (public name) Public gains refl refl ∙ ap (λ n. terms_of P.known.entries ++ public n ∷ []) same in
    rw silent (record { inner = []; line = rw (after, entries) (writes a); sig = gains.sig })

pub apply_line : (P : Parts) (k : Entries) (f ks : List ℕ) (label : List Fact) → Applies P.known k f ks → label ≡ [] → IsDone (seen P) (seen (record P { known = k })) (line.Apply f ks) label
apply_line P k f ks label h silent =
    let after = learns_is P k h.term (Apply f ks) h.gains refl refl in
    let entries = learns_terms P k h.term (Apply f ks) h.gains refl refl in
    let a = h.application in
    rw silent (record { inner = []; line = rw (after, entries) (applies f ks a.args h.term a.public_symbol a.arity a.at_numbers a.form h.within); sig = h.gains.sig })

pub apply_tied : (P : Parts) (k : Entries) (f ks : List ℕ) → Applies P.known k f ks → AreNumbered P.table k → AreTied P → AreTied (record P { known = k })
apply_tied P k f ks h numbered tied = learns_tied P k h.term (Apply f ks) h.gains refl refl numbered tied

pub apply_denied : (P : Parts) (f ks : List ℕ) (d : Deny) → IsCause P.known f ks d → IsDenied (seen P) (line.Apply f ks) (denied_fault d)
apply_denied P f ks Mem h = no_memory (line.Apply f ks)
apply_denied P f ks (NotPublic n) h = rw h.0 (not_public f ks h.1)
apply_denied P f ks (Arity n) h = rw h.0 (other_arity f ks h.1 h.2)
apply_denied P f ks (NoEntry n) h = unknown_argument f ks n h.0 h.1 (rw (count_terms P.known.entries) h.2)
apply_denied P f ks TermLarge h = let a = h.1 in large_application f ks a.args h.0 a.public_symbol a.arity a.at_numbers a.form h.2

pub know_line : (P : Parts) (k : ℕ) (t : Tree) (label : List Fact) → slice_get (terms_of P.known.entries) k ≡ Some t → label ≡ k_fact t ∷ [] → IsDone (seen P) (seen P) (line.Know k) label
know_line P k t label at shows = rw shows (record { inner = []; line = knows k t at; sig = refl })

-- a name that the adversary makes is its own
module _ (P : Parts) (k : Entries) (n : ℕ) (own : List ℕ) (gains : Gains P.known k (Name n) (fresh n)) (more : own ≡ P.own ++ n ∷ []) (tied : AreTied P) where
  names_more : names_given k.entries ≡ names_given P.known.entries ++ n ∷ []
  names_more = ap names_given gains.entries ∙ filter_map-append (λ (e : Entry). name_of e.origin) P.known.entries (entry (fresh n) (Name n) ∷ [])

  outputs_same : outputs_given k.entries ≡ outputs_given P.known.entries
  outputs_same =
      ap outputs_given gains.entries
      ∙ ap terms_of (filter-append (λ (e : Entry). is_output e.origin) P.known.entries (entry (fresh n) (Name n) ∷ []))
      ∙ map-append (λ (e : Entry). e.term) (filter (λ (e : Entry). is_output e.origin) P.known.entries) []
      ∙ append-nil (outputs_given P.known.entries)

  pub name_tied : AreNumbered P.table k → AreTied (record P { own = own; known = k })
  name_tied numbered = record {
    numbered = numbered;
    places = tied.places;
    threads = tied.threads;
    keys = tied.keys;
    values = tied.values;
    held = tied.held;
    own = more ∙ ap (λ ns. ns ++ n ∷ []) tied.own ∙ sym names_more;
    slots = tied.slots;
    facts = tied.facts;
  }

  pub name_line : (label : List Fact) → label ≡ [] → (¬ Contains P.made n) → (¬ Contains P.own n) → IsDone (seen P) (seen (record P { own = own; known = k })) (line.Name n) label
  name_line label silent free foreign =
      let after : configuration (seen (record P { own = own; known = k })) ≡ owns (configuration (seen P)) n = λ i. record (configuration (seen P)) { own = names_more i; frame = outputs_same i } in
      let entries : terms_of k.entries ≡ terms_of P.known.entries ++ fresh n ∷ [] = ap terms_of gains.entries ∙ terms_more P.known.entries (fresh n) (Name n) in
      rw silent (record { inner = []; line = rw (after, entries) (names n (free, rw tied.own at foreign)); sig = gains.sig })

pub name_used : (P : Parts) (n : ℕ) → AreTied P → Contains P.made n ⊎ Contains P.own n → IsDenied (seen P) (line.Name n) (fault.UsedName n)
name_used P n tied (inl h) = used_own n (inl h)
name_used P n tied (inr h) = used_own n (inr (rw tied.own at h))
