-- A name that nothing defines is used first at one word, and in each file that is refused for it.
use Rattle.std.proofs.Common.{◌≡◌, ℕ, Bool, true, false, List, [], ◌∷◌, Option, Some, None, map, refl, sym, ap, subst, ◌∙◌}
use Rattle.std.specs.Prelude.{Err, if◌then◌else◌, option_map, ⊤}
use Rattle.sap_terms.specs.Signature.{pairs_alone}
use Rattle.sap_text.specs.declared.token.Token.{Token}
use Rattle.sap_grammar.specs.Cut.{Placed}
use Rattle.sap_grammar.specs.Signatures.{clash_from}
use Rattle.sap_locks.specs.Annotation.{LockFlaw, without, over}
use Rattle.sap_read.specs.Causes.{cause_of, causes, fault_of_uses, first_of, lock_fault, unknown_from}
use Rattle.sap_read.specs.Files.{IsParted, IsRead, no_tokens, no_header, no_item, refused, unexpanded, ill, locked, unchecked}
use Rattle.sap_read.specs.Item.{Body, Standing, bodies, declarations, signature_of, statements}
use Rattle.sap_read.specs.ItemGrammar.{AreItems}
use Rattle.sap_read.specs.LocatedItems.{LocatedBody, located_bodies, plain_body}
use Rattle.sap_read.specs.UndefinedNames.{HasBodies, UsedName, first_undefined}
use Rattle.sap_read.specs.declared.fault.ReadFault.{ReadFault}
use Rattle.sap_read.specs.declared.fault.ReadFault.TheVariants.{NoProcess, TwoProcesses, UnknownProcess, DuplicateName, FunctionClash}
use Rattle.sap_statements.specs.declared.statement.Statement.{Statement}
use Rattle.sap_uses.specs.declared.fault.MacroFault.{MacroFault}
use Rattle.sap_uses.specs.declared.fault.MacroFault.TheVariants as uses
use Rattle.sap_read_places.specs.Placed.{stretch_before}
use Rattle.sap_read_places.specs.UndefinedPlaces.{IsUndefinedPlace}
use Rattle.sap_read_places.specs.declared.told.Told.{Told}
use Rattle.sap_read_places.proofs.Along.{PlainBodies}
use Rattle.sap_read_places.proofs.PlacedFiles.{OneBodies, OneCut, OneItems, OneTokens, same_located_bodies}

-- ---- one list of bodies

module _ (tokens : OneTokens) (cuts : OneCut) (items : OneItems) (one : OneBodies) {z : List ℕ} {ts us : List Token} {bs cs : List LocatedBody} (p : HasBodies z ts bs) (q : HasBodies z us cs) where
  pub has_same_tokens : ts ≡ us
  has_same_tokens = tokens z ts us p.name q.name p.cut q.cut p.parted q.parted

  pub has_same_bodies : bs ≡ cs
  has_same_bodies =
      p.bodies_are ∙ same_located_bodies tokens cuts items one p.items q.items (cuts z ts us p.name q.name p.cut q.cut p.parted q.parted) ∙ sym q.bodies_are

abbrev pub HasSameTokens : Type 0
HasSameTokens = (z : List ℕ) (ts us : List Token) (bs cs : List LocatedBody) → HasBodies z ts bs → HasBodies z us cs → ts ≡ us

abbrev pub HasSameBodies : Type 0
HasSameBodies = (z : List ℕ) (ts us : List Token) (bs cs : List LocatedBody) → HasBodies z ts bs → HasBodies z us cs → bs ≡ cs

-- ---- one place

some_name : {u v : UsedName} → ◌≡◌ {A = Option UsedName} (Some u) (Some v) → u ≡ v
some_name e = cc (e)

module _ (tokens : HasSameTokens) (same : HasSameBodies) {z x : List ℕ} {s t : Told} (a : IsUndefinedPlace z x s) (b : IsUndefinedPlace z x t) where
  bodies_same : a.bodies ≡ b.bodies
  bodies_same = same z a.tokens b.tokens a.bodies b.bodies a.has b.has

  name_same : a.name ≡ b.name
  name_same = some_name (sym a.first ∙ ap (first_undefined []) bodies_same ∙ b.first)

  word_same : s.word ≡ t.word
  word_same =
      a.word_is ∙ ap (λ (us : List Token). stretch_before us a.name.word) (tokens z a.tokens b.tokens a.bodies b.bodies a.has b.has)
      ∙ ap (λ (u : UsedName). stretch_before b.tokens u.word) name_same ∙ sym b.word_is

  uses_same : s.uses ≡ t.uses
  uses_same = a.uses_are ∙ sym b.uses_are

  pub one_undefined_place : s ≡ t
  one_undefined_place = λ i. record { word = word_same i; uses = uses_same i }

-- ---- what a cause says of unknown names

-- if the cause is an unknown name, it is this one
abbrev Names : Option (List ℕ) → ReadFault → Type 0
Names o (UnknownProcess x) = o ≡ Some x
Names o _ = ⊤

abbrev NamesIn : Option (List ℕ) → Option ReadFault → Type 0
NamesIn o None = ⊤
NamesIn o (Some e) = Names o e

abbrev NameIn : Option (List ℕ) → List (Option ReadFault) → Type 0
NameIn o [] = ⊤
NameIn o (c ∷ cs) = NamesIn o c × NameIn o cs

first_names : (o : Option (List ℕ)) (cs : List (Option ReadFault)) → NameIn o cs → NamesIn o (first_of cs)
first_names o [] h = tt
first_names o (None ∷ cs) h = first_names o cs h.1
first_names o (Some e ∷ cs) h = h.0

names_if : (o : Option (List ℕ)) (b : Bool) (e : ReadFault) → Names o e → NamesIn o (if b then Some e else None)
names_if o true e h = h
names_if o false e h = tt

names_map : {A : Type 0} (o : Option (List ℕ)) (f : A → ReadFault) (p : Option A) → ((x : A) → Names o (f x)) → NamesIn o (option_map f p)
names_map o f None h = tt
names_map o f (Some x) h = h x

names_unknown : (o : Option (List ℕ)) → NamesIn o (option_map UnknownProcess o)
names_unknown None = tt
names_unknown (Some x) = refl

causes_name : (bs : List Body) (ss : List Statement) (o : Option (List ℕ)) → NameIn (unknown_from [] bs) (causes bs ss o)
causes_name bs ss o =
    let u = unknown_from [] bs in (
      names_if u _ NoProcess tt,
      (
        names_map u (λ (b : Body). TwoProcesses b.line) _ (λ b. tt),
        (names_unknown u, (names_map u DuplicateName _ (λ x. tt), (names_map u DuplicateName _ (λ x. tt), (names_map u FunctionClash o (λ x. tt), tt)))),
      ),
    )

unknown_is : (is : List Standing) (e : ReadFault) → cause_of is ≡ Some e → Names (unknown_from [] (bodies is)) e
unknown_is is e c =
    let o = clash_from pairs_alone (declarations is) in
    subst (NamesIn (unknown_from [] (bodies is))) c (first_names (unknown_from [] (bodies is)) (causes (bodies is) (statements is) o) (causes_name (bodies is) (statements is) o))

-- ---- each refused file has its place

abbrev pub NamesAreUnknown : Type 0
NamesAreUnknown = (known : List (List ℕ)) (bs : List LocatedBody) → option_map (λ (u : UsedName). u.name) (first_undefined known bs) ≡ unknown_from known (map plain_body bs)

-- a name is used first
abbrev IsFirst : Option UsedName → List ℕ → Type 0
IsFirst o x = (u : UsedName) × (o ≡ Some u) × (u.name ≡ x)

some_word : {x y : List ℕ} → ◌≡◌ {A = Option (List ℕ)} (Some x) (Some y) → x ≡ y
some_word e = cc (e)

is_first : (o : Option UsedName) (x : List ℕ) → option_map (λ (u : UsedName). u.name) o ≡ Some x → IsFirst o x
is_first None x e = absurd (cc (e))
is_first (Some u) x e = (u, refl, some_word e)

-- a name of a file has its place
abbrev HasUndefined : List ℕ → List ℕ → Type 0
HasUndefined z x = (t : Told) × IsUndefinedPlace z x t

-- the cause is this one
abbrev HasCause : List ℕ → ReadFault → Type 0
HasCause z (UnknownProcess x) = HasUndefined z x
HasCause z _ = ⊤

use_has : (z : List ℕ) (f : MacroFault) → HasCause z (fault_of_uses f)
use_has z uses.Mem = tt
use_has z (uses.Parameters x) = tt
use_has z (uses.Arguments x) = tt
use_has z uses.TooMany = tt
use_has z uses.TooDeep = tt
use_has z (uses.Large x) = tt
use_has z (uses.Flawed x w path) = tt

lock_has_place : (z : List ℕ) (w : LockFlaw) (path : List ℕ) → HasCause z (lock_fault w path)
lock_has_place z without path = tt
lock_has_place z over path = tt

module _ (unknown : NamesAreUnknown) (plain : PlainBodies) (z : List ℕ) where
  place_of_name : (ts : List Token) (n : List ℕ) (cut : List (List Placed)) (is : List Standing) (x : List ℕ) → IsParted z ts n cut → AreItems (signature_of is) cut is
      → unknown_from [] (bodies is) ≡ Some x → IsRead z (Err (UnknownProcess x)) → HasUndefined z x
  place_of_name ts n cut is x parted items e read =
      let bs = located_bodies items in
      let first = is_first (first_undefined [] bs) x (unknown [] bs ∙ ap (unknown_from []) (plain (signature_of is) cut is items) ∙ e) in (
        record { word = stretch_before ts first.0.word; uses = [] },
        record {
          refused = read;
          tokens = ts;
          bodies = bs;
          has = record { name = n; cut = cut; standing = is; parted = parted; items = items; bodies_are = refl };
          name = first.0;
          first = first.1;
          name_is = first.2;
          word_is = refl;
          uses_are = refl;
        },
      )

  early_has : (ts : List Token) (n : List ℕ) (cut : List (List Placed)) (is : List Standing) (e : ReadFault) → IsParted z ts n cut → AreItems (signature_of is) cut is
      → Names (unknown_from [] (bodies is)) e → IsRead z (Err e) → HasCause z e
  early_has ts n cut is (UnknownProcess x) p i h r = place_of_name ts n cut is x p i h r
  early_has ts n cut is _ p i h r = tt

  cause_has : {e : ReadFault} → IsRead z (Err e) → HasCause z e
  cause_has (no_tokens l) = tt
  cause_has (no_header t n) = tt
  cause_has (no_item p f) = tt
  cause_has (refused {ts = ts} {x = n} {cut = cut} {is = is} {e = e} p i c) = early_has ts n cut is e p i (unknown_is is e c) (refused p i c)
  cause_has (unexpanded {f = f} p i c u) = use_has z f
  cause_has (ill p i c w f) = tt
  cause_has (locked {w = w} {path = path} p i c f good l) = lock_has_place z w path
  cause_has (unchecked p i c w f a u) = tt

  pub some_undefined_place : (x : List ℕ) → IsRead z (Err (UnknownProcess x)) → HasUndefined z x
  some_undefined_place x r = cause_has r
