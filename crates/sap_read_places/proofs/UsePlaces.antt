-- A use of which a cause speaks stands at one place of a file, and each file that is refused for it has this place.
use Rattle.std.proofs.Common.{◌≡◌, ℕ, List, [], map, Option, Some, None, refl, sym, ap, subst, ◌∙◌}
use Rattle.std.specs.Prelude.{Err, option_map}
use Rattle.sap_terms.specs.Signature.{Sig}
use Rattle.sap_text.specs.declared.token.Token.{Token}
use Rattle.sap_grammar.specs.Cut.{Placed}
use Rattle.sap_macro.specs.Located.{Located, without_numbers}
use Rattle.sap_macro.specs.MacroCauses.{first_other_count}
use Rattle.sap_macro.specs.Order.{AreInOrder}
use Rattle.sap_macro.specs.Written.{Definition, Written}
use Rattle.sap_origin.specs.Definitions.{LocatedDefinition, plain_definition}
use Rattle.sap_read.specs.Causes.{cause_of, fault_of_uses, lock_fault}
use Rattle.sap_read.specs.FileProcess.{IsUnexpanded, definitions_of, main_of}
use Rattle.sap_read.specs.Files.{IsParted, IsRead, no_tokens, no_header, no_item, refused, unexpanded, ill, locked, unchecked}
use Rattle.sap_read.specs.Item.{Body, Standing, bodies, signature_of}
use Rattle.sap_read.specs.ItemGrammar.{AreItems}
use Rattle.sap_read.specs.LocatedItems.{LocatedMain, definitions_at, located_bodies, plain_body}
use Rattle.sap_read.specs.WrittenFiles.{IsEarly}
use Rattle.sap_read.specs.declared.fault.ReadFault.{ReadFault}
use Rattle.sap_read.specs.declared.fault.ReadFault.TheVariants.{Arguments, Large}
use Rattle.sap_locks.specs.Annotation.{LockFlaw, without, over}
use Rattle.sap_uses.specs.UseCauses.{first_large}
use Rattle.sap_uses.specs.declared.fault.MacroFault.{MacroFault}
use Rattle.sap_uses.specs.declared.fault.MacroFault.TheVariants as uses
use Rattle.sap_use_words.specs.ExpandedUses.{large_use}
use Rattle.sap_use_words.specs.WrittenUses.{LocatedUse, other_use}
use Rattle.sap_read_places.specs.declared.told.Told.{Told}
use Rattle.sap_read_places.specs.Placed.{IsPlaced, stretch_before}
use Rattle.sap_read_places.specs.UsePlaces.{IsLargeUsePlace, IsOtherUsePlace, IsUseTold}
use Rattle.sap_read_places.proofs.Along.{Ordered, PlainBodies, SameDefinitions, SameMain, SameTokens}
use Rattle.sap_read_places.proofs.FirstCauses.{of_cause}
use Rattle.sap_read_places.proofs.PlacedFiles.{has_main, plain_definitions_at}

-- a use of definitions and a process behind whose item so many words are, if there is one
abbrev pub Finder : Type 0
Finder = List LocatedDefinition → ℕ → Located → Option LocatedUse

abbrev pub name_of : LocatedUse → List ℕ
name_of u = u.name

-- the place of the use that is found so
pub record IsFoundPlace (find : Finder) (z : List ℕ) (x : List ℕ) (t : Told) : Type 0 where
  pub tokens : List Token
  pub definitions : List LocatedDefinition
  pub main : LocatedMain
  pub placed : IsPlaced z tokens definitions main
  pub found : LocatedUse
  pub first : find definitions main.behind main.process ≡ Some found
  pub told : IsUseTold tokens x found t

pub as_other : {z x : List ℕ} {t : Told} → IsFoundPlace other_use z x t → IsOtherUsePlace z x t
as_other a = record { tokens = a.tokens; definitions = a.definitions; main = a.main; placed = a.placed; found = a.found; first = a.first; told = a.told }

pub of_other : {z x : List ℕ} {t : Told} → IsOtherUsePlace z x t → IsFoundPlace other_use z x t
of_other a = record { tokens = a.tokens; definitions = a.definitions; main = a.main; placed = a.placed; found = a.found; first = a.first; told = a.told }

pub as_large : {z x : List ℕ} {t : Told} → IsFoundPlace large_use z x t → IsLargeUsePlace z x t
as_large a = record { tokens = a.tokens; definitions = a.definitions; main = a.main; placed = a.placed; found = a.found; first = a.first; told = a.told }

pub of_large : {z x : List ℕ} {t : Told} → IsLargeUsePlace z x t → IsFoundPlace large_use z x t
of_large a = record { tokens = a.tokens; definitions = a.definitions; main = a.main; placed = a.placed; found = a.found; first = a.first; told = a.told }

-- ---- one place

some_use : {u v : LocatedUse} → ◌≡◌ {A = Option LocatedUse} (Some u) (Some v) → u ≡ v
some_use e = cc (e)

module _ (tokens : SameTokens) (definitions : SameDefinitions) (mains : SameMain) (find : Finder) where
  -- what is found in the one way of a file is found in the other
  pub found_too : {z : List ℕ} {ts us : List Token} {ds es : List LocatedDefinition} {m n : LocatedMain} {o : Option LocatedUse} → IsPlaced z ts ds m → IsPlaced z us es n
      → find ds m.behind m.process ≡ o → find es n.behind n.process ≡ o
  found_too {z = z} {ts = ts} {us = us} {ds = ds} {es = es} {m = m} {n = n} {o = o} a b e =
      subst (λ (k : LocatedMain). find es k.behind k.process ≡ o) (mains z ts us ds es m n a b)
      (subst (λ (fs : List LocatedDefinition). find fs m.behind m.process ≡ o) (definitions z ts us ds es m n a b) e)

  module _ (z x y : List ℕ) (s t : Told) (a : IsFoundPlace find z x s) (b : IsFoundPlace find z y t) where
    same_tokens : a.tokens ≡ b.tokens
    same_tokens = tokens z a.tokens b.tokens a.definitions b.definitions a.main b.main a.placed b.placed

    same_use : a.found ≡ b.found
    same_use = some_use (sym (found_too a.placed b.placed a.first) ∙ b.first)

    same_word : s.word ≡ t.word
    same_word =
        a.told.word_is ∙ ap (λ (us : List Token). stretch_before us a.found.word) same_tokens
        ∙ ap (λ (u : LocatedUse). stretch_before b.tokens u.word) same_use ∙ sym b.told.word_is

    same_uses : s.uses ≡ t.uses
    same_uses =
        a.told.uses_are ∙ ap (λ (us : List Token). map (stretch_before us) a.found.above) same_tokens
        ∙ ap (λ (u : LocatedUse). map (stretch_before b.tokens) u.above) same_use ∙ sym b.told.uses_are

    pub one_use : s ≡ t
    one_use = λ i. record { word = same_word i; uses = same_uses i }

    pub one_name : x ≡ y
    one_name = sym a.told.name_is ∙ ap name_of same_use ∙ b.told.name_is

-- ---- each file that is refused has it

-- the file's process has this cause, of this name
abbrev pub HasCause : (List Definition → Written → Option (List ℕ)) → List Body → List ℕ → Type 0
HasCause cause bs x = (main : Written) × (main_of bs ≡ Some main) × (cause (definitions_of bs) main ≡ Some x)

abbrev pub AreNamed : Finder → (List Definition → Written → Option (List ℕ)) → Type 0
AreNamed find cause = (ds : List LocatedDefinition) (n : ℕ) (p : Located) → AreInOrder [] (map plain_definition ds) → option_map name_of (find ds n p) ≡ cause (map plain_definition ds) (without_numbers p)

-- the use that has this name
abbrev HasUse : Option LocatedUse → List ℕ → Type 0
HasUse o x = (u : LocatedUse) × (o ≡ Some u) × (u.name ≡ x)

some_name : {x y : List ℕ} → ◌≡◌ {A = Option (List ℕ)} (Some x) (Some y) → x ≡ y
some_name e = cc (e)

has_use : (o : Option LocatedUse) (x : List ℕ) → option_map name_of o ≡ Some x → HasUse o x
has_use None x e = absurd (cc (e))
has_use (Some u) x e = (u, refl, some_name e)

abbrev pub HasFoundPlace : Finder → List ℕ → List ℕ → Type 0
HasFoundPlace find z x = (t : Told) × IsFoundPlace find z x t

module _ (plain : PlainBodies) (ordered : Ordered) (find : Finder) (cause : List Definition → Written → Option (List ℕ)) (named : AreNamed find cause) where
  pub use_stands : (z : List ℕ) (ts : List Token) (y : List ℕ) (cut : List (List Placed)) (is : List Standing) (x : List ℕ) → IsParted z ts y cut → AreItems (signature_of is) cut is
      → cause_of is ≡ None → HasCause cause (bodies is) x → HasFoundPlace find z x
  use_stands z ts y cut is x parted items nothing whole =
      let bs = located_bodies items in
      let ds = definitions_at bs in
      let written : map plain_body bs ≡ bodies is = plain (signature_of is) cut is items in
      let plain_ds : map plain_definition ds ≡ definitions_of (bodies is) = plain_definitions_at bs ∙ ap definitions_of written in
      let main = has_main bs whole.0 (ap main_of written ∙ whole.1) in
      let order : AreInOrder [] (map plain_definition ds) = subst (λ (es : List Definition). AreInOrder [] es) (sym plain_ds) (ordered is nothing) in
      let caused : cause (map plain_definition ds) (without_numbers main.0.process) ≡ Some x = (λ i. cause (plain_ds i) (main.2 i)) ∙ whole.2 in
      let u = has_use (find ds main.0.behind main.0.process) x (named ds main.0.behind main.0.process order ∙ caused) in (
        record { word = stretch_before ts u.0.word; uses = map (stretch_before ts) u.0.above },
        record {
          tokens = ts;
          definitions = ds;
          main = main.0;
          placed = record { name = y; cut = cut; standing = is; parted = parted; items = items; nothing = nothing; definitions_are = refl; main_is = main.1 };
          found = u.0;
          first = u.1;
          told = record { name_is = u.2; word_is = refl; uses_are = refl };
        },
      )

-- ---- a cause that counts before the uses is early

cause_is_early : (is : List Standing) (e : ReadFault) → cause_of is ≡ Some e → IsEarly e
cause_is_early = of_cause IsEarly tt (λ n. tt) (λ x. tt) (λ x. tt) (λ x. tt)

-- ---- the two causes

other_name : {x y : List ℕ} → Arguments x ≡ Arguments y → x ≡ y
other_name e = cc (e)

large_name : {x y : List ℕ} → Large x ≡ Large y → x ≡ y
large_name e = cc (e)

other_holds : {g : Sig} {bs : List Body} {x : List ℕ} (f : MacroFault) → fault_of_uses f ≡ Arguments x → IsUnexpanded g bs f → HasCause first_other_count bs x
other_holds uses.Mem e u = absurd (cc (e))
other_holds (uses.Parameters y) e u = absurd (cc (e))
other_holds (uses.Arguments y) e u = (u.main, u.is_main, u.cause.holds ∙ ap Some (other_name e))
other_holds uses.TooMany e u = absurd (cc (e))
other_holds uses.TooDeep e u = absurd (cc (e))
other_holds (uses.Large y) e u = absurd (cc (e))
other_holds (uses.Flawed y w path) e u = absurd (cc (e))

large_holds : {g : Sig} {bs : List Body} {x : List ℕ} (f : MacroFault) → fault_of_uses f ≡ Large x → IsUnexpanded g bs f → HasCause first_large bs x
large_holds uses.Mem e u = absurd (cc (e))
large_holds (uses.Parameters y) e u = absurd (cc (e))
large_holds (uses.Arguments y) e u = absurd (cc (e))
large_holds uses.TooMany e u = absurd (cc (e))
large_holds uses.TooDeep e u = absurd (cc (e))
large_holds (uses.Large y) e u = (u.main, u.is_main, u.cause.holds ∙ ap Some (large_name e))
large_holds (uses.Flawed y w path) e u = absurd (cc (e))

lock_is_no_other : {A : Type 0} (w : LockFlaw) (path x : List ℕ) → lock_fault w path ≡ Arguments x → A
lock_is_no_other without path x e = absurd (cc (e))
lock_is_no_other over path x e = absurd (cc (e))

lock_is_no_large : {A : Type 0} (w : LockFlaw) (path x : List ℕ) → lock_fault w path ≡ Large x → A
lock_is_no_large without path x e = absurd (cc (e))
lock_is_no_large over path x e = absurd (cc (e))

module _ (plain : PlainBodies) (ordered : Ordered) (named : AreNamed other_use first_other_count) (z x : List ℕ) where
  pub refused_for_other : {e : ReadFault} → e ≡ Arguments x → IsRead z (Err e) → HasFoundPlace other_use z x
  refused_for_other h (no_tokens l) = absurd (cc (h))
  refused_for_other h (no_header t n) = absurd (cc (h))
  refused_for_other h (no_item p f) = absurd (cc (h))
  refused_for_other h (refused {is = is} {e = e} p i c) = absurd (subst IsEarly h (cause_is_early is e c))
  refused_for_other h (unexpanded {ts = ts} {x = y} {cut = cut} {is = is} {f = f} p i c u) =
      use_stands plain ordered other_use first_other_count named z ts y cut is x p i c (other_holds f h u)
  refused_for_other h (ill p i c w f) = absurd (cc (h))
  refused_for_other h (locked {w = w} {path = path} p i c f good l) = lock_is_no_other w path x h
  refused_for_other h (unchecked p i c w f a u) = absurd (cc (h))

module _ (plain : PlainBodies) (ordered : Ordered) (named : AreNamed large_use first_large) (z x : List ℕ) where
  pub refused_for_large : {e : ReadFault} → e ≡ Large x → IsRead z (Err e) → HasFoundPlace large_use z x
  refused_for_large h (no_tokens l) = absurd (cc (h))
  refused_for_large h (no_header t n) = absurd (cc (h))
  refused_for_large h (no_item p f) = absurd (cc (h))
  refused_for_large h (refused {is = is} {e = e} p i c) = absurd (subst IsEarly h (cause_is_early is e c))
  refused_for_large h (unexpanded {ts = ts} {x = y} {cut = cut} {is = is} {f = f} p i c u) =
      use_stands plain ordered large_use first_large named z ts y cut is x p i c (large_holds f h u)
  refused_for_large h (ill p i c w f) = absurd (cc (h))
  refused_for_large h (locked {w = w} {path = path} p i c f good l) = lock_is_no_large w path x h
  refused_for_large h (unchecked p i c w f a u) = absurd (cc (h))
