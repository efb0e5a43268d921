-- Bytes are a file of tokens, definitions and a process in one way; and these are without numbers what the file says.
use Rattle.std.proofs.Common.{◌≡◌, ℕ, Bool, true, false, List, [], ◌∷◌, ◌++◌, Option, Some, None, map, refl, sym, ap, subst, ◌∙◌}
use Rattle.std.proofs.lemmas.List.{map-append}
use Rattle.std.specs.Prelude.{if◌then◌else◌, is_none}
use Rattle.sap_terms.specs.Signature.{Sig}
use Rattle.sap_text.specs.declared.token.Token.{Token}
use Rattle.sap_grammar.specs.Cut.{Placed}
use Rattle.sap_macro.specs.Located.{without_numbers}
use Rattle.sap_macro.specs.Written.{Definition, Written}
use Rattle.sap_origin.specs.Definitions.{LocatedDefinition, plain_definition}
use Rattle.sap_read.specs.FileProcess.{defined_as, definitions_of, main_of}
use Rattle.sap_read.specs.Files.{IsParted}
use Rattle.sap_read.specs.Item.{Standing, signature_of}
use Rattle.sap_read.specs.ItemGrammar.{AreItems}
use Rattle.sap_read.specs.LocatedItems.{LocatedBody, LocatedMain, defined_at, definitions_at, located_bodies, main_at, plain_body}
use Rattle.sap_read_places.specs.Placed.{IsPlaced}

-- what the laws of files say
abbrev pub OneTokens : Type 0
OneTokens = (z : List ℕ) (ts us : List Token) (x y : List ℕ) (cut other : List (List Placed)) → IsParted z ts x cut → IsParted z us y other → ts ≡ us

abbrev pub OneCut : Type 0
OneCut = (z : List ℕ) (ts us : List Token) (x y : List ℕ) (cut other : List (List Placed)) → IsParted z ts x cut → IsParted z us y other → cut ≡ other

abbrev pub OneItems : Type 0
OneItems = (cut : List (List Placed)) (is js : List Standing) → AreItems (signature_of is) cut is → AreItems (signature_of js) cut js → is ≡ js

abbrev pub OneBodies : Type 0
OneBodies = (g : Sig) (cut : List (List Placed)) (is js : List Standing) (r : AreItems g cut is) (s : AreItems g cut js) → located_bodies r ≡ located_bodies s

some_main : {m n : LocatedMain} → ◌≡◌ {A = Option LocatedMain} (Some m) (Some n) → m ≡ n
some_main e = cc (e)

module _ (tokens : OneTokens) (cuts : OneCut) (items : OneItems) (one_bodies : OneBodies) where
  pub same_located_bodies : {cut dut : List (List Placed)} {is js : List Standing} (r : AreItems (signature_of is) cut is) (s : AreItems (signature_of js) dut js) → cut ≡ dut → located_bodies r ≡ located_bodies s
  same_located_bodies {cut = cut} {dut = dut} {is = is} {js = js} r s same =
      let one : is ≡ js = items cut is js r (subst (λ (c : List (List Placed)). AreItems (signature_of js) c js) (sym same) s) in
      let here : (s : AreItems (signature_of js) cut js) → located_bodies r ≡ located_bodies s =
      subst (λ (ks : List Standing). (s : AreItems (signature_of ks) cut ks) → located_bodies r ≡ located_bodies s) one (λ s. one_bodies (signature_of is) cut is is r s) in
      subst (λ (c : List (List Placed)). (s : AreItems (signature_of js) c js) → located_bodies r ≡ located_bodies s) same here s

  module _ {z : List ℕ} {ts us : List Token} {ds es : List LocatedDefinition} {m n : LocatedMain} (p : IsPlaced z ts ds m) (q : IsPlaced z us es n) where
    bodies_are : located_bodies p.items ≡ located_bodies q.items
    bodies_are = same_located_bodies p.items q.items (cuts z ts us p.name q.name p.cut q.cut p.parted q.parted)

    pub same_tokens : ts ≡ us
    same_tokens = tokens z ts us p.name q.name p.cut q.cut p.parted q.parted

    pub same_definitions : ds ≡ es
    same_definitions = sym p.definitions_are ∙ ap definitions_at bodies_are ∙ q.definitions_are

    pub same_main : m ≡ n
    same_main = some_main (sym p.main_is ∙ ap main_at bodies_are ∙ q.main_is)

-- ---- without numbers

defined_plain : (o : Option (List ℕ)) (b : LocatedBody) → map plain_definition (defined_at o b) ≡ defined_as o (plain_body b)
defined_plain None b = refl
defined_plain (Some x) b = refl

pub plain_definitions_at : (bs : List LocatedBody) → map plain_definition (definitions_at bs) ≡ definitions_of (map plain_body bs)
plain_definitions_at [] = refl
plain_definitions_at (b ∷ bs) =
    map-append plain_definition (defined_at b.label b) (definitions_at bs)
    ∙ ap (λ (ds : List Definition). ds ++ map plain_definition (definitions_at bs)) (defined_plain b.label b)
    ∙ ap (λ (ds : List Definition). defined_as b.label (plain_body b) ++ ds) (plain_definitions_at bs)

-- the file's process is there, and it is this without numbers
abbrev pub HasMain : Option LocatedMain → Written → Type 0
HasMain o p = (m : LocatedMain) × (o ≡ Some m) × (without_numbers m.process ≡ p)

some_written : {p q : Written} → ◌≡◌ {A = Option Written} (Some p) (Some q) → p ≡ q
some_written e = cc (e)

first_main : (n : Bool) (b : LocatedBody) (bs : List LocatedBody) (p : Written) → (if n then Some (without_numbers b.content) else main_of (map plain_body bs)) ≡ Some p
    → (main_of (map plain_body bs) ≡ Some p → HasMain (main_at bs) p) → HasMain (if n then Some (record { process = b.content; behind = b.behind }) else main_at bs) p
first_main true b bs p e rest = (record { process = b.content; behind = b.behind }, refl, some_written e)
first_main false b bs p e rest = rest e

pub has_main : (bs : List LocatedBody) (p : Written) → main_of (map plain_body bs) ≡ Some p → HasMain (main_at bs) p
has_main [] p e = absurd (cc (e))
has_main (b ∷ bs) p e = first_main (is_none b.label) b bs p e (has_main bs p)
