-- What the items of a file say, what refuses it, and what is written in it.
use Rattle.std.proofs.Common.{◌≡◌, ℕ, List, [], ◌∷◌, Bool, true, false, map, sym, subst, Some, None, Option, Err, refl}
use Rattle.std.specs.Prelude.{IsErrOf, Result, if◌then◌else◌, is_none, option_map, slice_get}
use Rattle.sap_text.specs.declared.token.Token.{Token}
use Rattle.sap_terms.specs.Signature.{Sig, pairs_alone}
use Rattle.sap_grammar.specs.Cut.{placed, last_line}
use Rattle.sap_grammar.specs.Signatures.{clash_from}
use Rattle.sap_grammar.specs.ItemLaws.{ItemLaws}
use Rattle.sap_grammar.specs.ItemReading.{header_of}
use Rattle.sap_grammar.specs.Words.{words_of}
use Rattle.sap_statements.specs.declared.statement.Statement.{Statement}
use Rattle.sap_statements.specs.Statements.{name_of}
use Rattle.sap_restrict.specs.Restrictions.{is_generated}
use Rattle.sap_read.specs.Causes.{cause, causes, first_of, first_repeated, first_taken, labels, unknown_from, unlabelled}
use Rattle.sap_read.specs.Entries.{body, located_body}
use Rattle.sap_read.specs.Files.{AreTokens, IsRead, no_item, refused}
use Rattle.sap_read.specs.Identifiers.{identifiers_of}
use Rattle.sap_read.specs.Item.{Body, bodies, declarations, signature_of, statements}
use Rattle.sap_read.specs.ItemGrammar.{AreItems, IsFaultyFile}
use Rattle.sap_read.specs.LocatedItems.{LocatedBody, located_bodies}
use Rattle.sap_read.specs.SaidFiles.{IsOfItems, IsSaidFile, IsUnrefused}
use Rattle.sap_read.specs.WrittenFiles.{IsWrittenFile}
use Rattle.sap_read.specs.code.ItemView.{AreSaid}
use Rattle.sap_read.specs.code.Parting.{AreLocatedParts, AreParts}
use Rattle.sap_read.specs.declared.fault.ReadFault.{ReadFault}
use Rattle.sap_read.specs.declared.fault.ReadFault.TheVariants.{Syntax, NoProcess, TwoProcesses, UnknownProcess, DuplicateName, FunctionClash}
use Rattle.sap_read.specs.declared.said.SaidFile.{SaidFile}
use Rattle.sap_read.specs.declared.written.WrittenFile.{WrittenFile}
use Rattle.sap_read.proofs.Parts.{IsDeclared, items_are_cut, items_of, parted}

-- ---- what is said

-- the parts of a file with a header, where its items say this
pub is_said : ItemLaws → (z : List ℕ) (ts : List Token) (f : SaidFile) → AreTokens z ts → header_of (words_of z ts) ≡ Some f.name
    → IsDeclared z ts f.declared.signature f.declared.clash → f.identifiers ≡ identifiers_of (words_of z ts)
    → AreSaid f.declared.signature (items_of z ts) f.entries f.statements → IsSaidFile z f
is_said laws z ts f t h d names is =
    let told = d f.declared.signature (items_of z ts) is.standing (items_are_cut laws z ts) is.items in
    let own : (r : AreItems (signature_of is.standing) (items_of z ts) is.standing) × (map located_body f.entries ≡ located_bodies r) =
    subst (λ (s : Sig). (r : AreItems s (items_of z ts) is.standing) × (map located_body f.entries ≡ located_bodies r)) told.0
    (is.items, sym (is.places_are is.standing is.items)) in
    record {
      tokens = ts;
      cut = items_of z ts;
      standing = is.standing;
      parted = parted laws z ts f.name t h;
      items = own.0;
      signature = told.0;
      clash = told.1;
      identifiers = names;
      bodies_are = is.bodies_are;
      places_are = own.1;
      statements_are = is.statements_are;
    }

-- an error that is of syntax is that one
pub as_syntax : {A : Type 0} (r : Result A ReadFault) (e : ReadFault) (line : ℕ) → IsErrOf r e → e ≡ Syntax line → IsErrOf r (Syntax line)
as_syntax r e line h is = subst (λ (q : ReadFault). IsErrOf r q) is h

-- a piece that is no item refuses it
pub is_faulty : ItemLaws → (z : List ℕ) (ts : List Token) (x : List ℕ) (line : ℕ) (e : ReadFault) → AreTokens z ts → header_of (words_of z ts) ≡ Some x
    → IsFaultyFile (last_line (placed z ts)) (items_of z ts) line → e ≡ Syntax line → IsRead z (Err e)
is_faulty laws z ts x line e t h f is = subst (λ (q : ReadFault). IsRead z (Err q)) (sym is) (no_item (parted laws z ts x t h) f)

-- ---- what refuses it

-- what each of these tells is a cause that is looked for in what items say
AreOfItems : List (Option ReadFault) → Type 0
AreOfItems [] = Unit {0}
AreOfItems (o ∷ os) = ((e : ReadFault) → o ≡ Some e → IsOfItems e) × AreOfItems os

first_is : (os : List (Option ReadFault)) → AreOfItems os → (e : ReadFault) → first_of os ≡ Some e → IsOfItems e
unfolding AreOfItems
first_is [] each e h = absurd (cc)
first_is (None ∷ os) each e h = first_is os each.1 e h
first_is (Some f ∷ os) each e h = each.0 e h

absent : (b : Bool) (e : ReadFault) → (if b then Some NoProcess else None) ≡ Some e → IsOfItems e
absent true e h = let is : NoProcess ≡ e = cc in subst IsOfItems is tt
absent false e h = absurd (cc)

named : (make : List ℕ → ReadFault) → ((x : List ℕ) → IsOfItems (make x)) → (o : Option (List ℕ)) (e : ReadFault) → option_map make o ≡ Some e → IsOfItems e
named make each None e h = absurd (cc)
named make each (Some x) e h = let is : make x ≡ e = cc in subst IsOfItems is (each x)

second : (o : Option Body) (e : ReadFault) → option_map (λ (b : Body). TwoProcesses b.line) o ≡ Some e → IsOfItems e
second None e h = absurd (cc)
second (Some b) e h = let is : TwoProcesses b.line ≡ e = cc in subst IsOfItems is tt

pub cause_of_items : (bs : List Body) (ss : List Statement) (clash : Option (List ℕ)) (e : ReadFault) → cause bs ss clash ≡ Some e → IsOfItems e
unfolding AreOfItems
cause_of_items bs ss clash e h = first_is (causes bs ss clash) (
  absent (is_none (slice_get (unlabelled bs) 0)),
  (
    second (slice_get (unlabelled bs) 1),
    (
      named UnknownProcess (λ x. tt) (unknown_from [] bs),
      (
        named DuplicateName (λ x. tt) (first_repeated (labels bs)),
        (
          named DuplicateName (λ x. tt) (first_taken is_generated (map name_of ss)),
          (named FunctionClash (λ x. tt) clash, tt),
        ),
      ),
    ),
  ),
) e h

-- what is said is what the items of the file say
said_cause : (z : List ℕ) (f : SaidFile) (is : IsSaidFile z f) (o : Option ReadFault) → cause (map body f.entries) f.statements f.declared.clash ≡ o
    → cause (bodies is.standing) (statements is.standing) (clash_from pairs_alone (declarations is.standing)) ≡ o
said_cause z f is o h =
    subst (λ (c : Option (List ℕ)). cause (bodies is.standing) (statements is.standing) c ≡ o) is.clash
    (subst (λ (ss : List Statement). cause (bodies is.standing) ss f.declared.clash ≡ o) is.statements_are
    (subst (λ (bs : List Body). cause bs f.statements f.declared.clash ≡ o) is.bodies_are h))

pub said_refused : (z : List ℕ) (f : SaidFile) (e : ReadFault) → IsSaidFile z f → cause (map body f.entries) f.statements f.declared.clash ≡ Some e → IsRead z (Err e)
said_refused z f e is h = refused is.parted is.items (said_cause z f is (Some e) h)

-- ---- what is written

-- where no cause is there one process is the file's
one_alone : (bs : List Body) → (if is_none (slice_get bs 0) then Some NoProcess else None) ≡ None → option_map (λ (b : Body). TwoProcesses b.line) (slice_get bs 1) ≡ None → (b : Body) × (bs ≡ b ∷ [])
one_alone [] none two = absurd (cc)
one_alone (b ∷ []) none two = (b, refl)
one_alone (b ∷ c ∷ bs) none two = absurd (cc)

nothing_first : {A : Type 0} (o : Option A) (os : List (Option A)) → first_of (o ∷ os) ≡ None → (o ≡ None) × (first_of os ≡ None)
nothing_first None os h = (refl, h)
nothing_first (Some x) os h = absurd (cc)

pub one_of_none : (bs : List Body) (ss : List Statement) (clash : Option (List ℕ)) → cause bs ss clash ≡ None → (b : Body) × (unlabelled bs ≡ b ∷ [])
one_of_none bs ss clash h =
    let none : Option ReadFault = if is_none (slice_get (unlabelled bs) 0) then Some NoProcess else None in
    let two : Option ReadFault = option_map (λ (b : Body). TwoProcesses b.line) (slice_get (unlabelled bs) 1) in
    let more : List (Option ReadFault) = option_map UnknownProcess (unknown_from [] bs) ∷ option_map DuplicateName (first_repeated (labels bs)) ∷ option_map DuplicateName (first_taken is_generated (map name_of ss)) ∷ option_map FunctionClash clash ∷ [] in
    let first = nothing_first none (two ∷ more) h in
    let second = nothing_first two more first.1 in
    one_alone (unlabelled bs) first.0 second.0

-- its parts are what is written
pub is_written : (z : List ℕ) (f : SaidFile) (w : WrittenFile) → IsSaidFile z f → IsUnrefused f → w.name ≡ f.name → w.declared ≡ f.declared → w.identifiers ≡ f.identifiers → w.statements ≡ f.statements
    → AreParts (map body f.entries) f.statements f.declared.clash w.processes → AreLocatedParts (map located_body f.entries) w.processes → IsWrittenFile z w
is_written z f w is none name declared names stated parts places =
    let own : AreParts (bodies is.standing) f.statements f.declared.clash w.processes = subst (λ (bs : List Body). AreParts bs f.statements f.declared.clash w.processes) is.bodies_are parts in
    let there : AreLocatedParts (located_bodies is.items) w.processes = subst (λ (bs : List LocatedBody). AreLocatedParts bs w.processes) is.places_are places in
    record {
      tokens = is.tokens;
      cut = is.cut;
      standing = is.standing;
      parted = rw name is.parted;
      items = is.items;
      nothing = said_cause z f is None none;
      signature = rw declared is.signature;
      identifiers = rw names is.identifiers;
      statements_are = rw stated is.statements_are;
      order = own.order;
      definitions_are = own.definitions_are;
      main_is = own.main_is;
      uses = own.uses;
      count = own.count;
      definitions_stand = there.definitions_are;
      main_stands = there.main_is;
    }
