-- Restrictions and lemmas with the words of their parts, to try by hand which word is told of a fault.
use Rattle.std.specs.Prelude.{◌≡◌, ℕ, codes, List, [], ◌∷◌, None}
use Rattle.sap_terms.specs.Signature.{Sig}
use Rattle.sap_terms.specs.Equations.{app2, pair_name}
use Rattle.sap_text.specs.declared.token.Token.{Token}
use Rattle.sap_formula.specs.CheckExamples.{decrypted, function_before, named, shows}
use Rattle.sap_formula.specs.Examples.{a, b, i, some_time}
use Rattle.sap_formula.specs.Form.{Form, exists}
use Rattle.sap_formula.specs.declared.binder.Binder.TheVariants.{Time}
use Rattle.sap_formula.specs.declared.lemma.Mode.TheVariants.{AllTraces}
use Rattle.sap_grammar.specs.Cut.{Placed}
use Rattle.sap_read.specs.Causes.{cause_of}
use Rattle.sap_read.specs.Files.{IsParted}
use Rattle.sap_read.specs.Item.{Item, Standing, signature_of}
use Rattle.sap_read.specs.ItemGrammar.{AreItems}
use Rattle.sap_statements.specs.declared.statement.Statement.TheVariants.{Restriction as restriction, Lemma as lemma}
use Rattle.sap_read_places.specs.PartPlaces.{LocatedStatement, located_statements}

-- a restriction of this name and this formula, with the words of its parts, behind whose item so many words of the file are
abbrev pub restricted : List ℕ → Form → List ℕ → ℕ → LocatedStatement
restricted x f ns n = record { statement = restriction (record { name = x; formula = f }); words = ns; behind = n }

-- restriction G: "Ex #i. A(<'a','b'>)@i", without a fault, behind it 15 words
abbrev pub good : LocatedStatement
good = restricted (codes "G") (some_time (app2 pair_name a b)) (13 ∷ 11 ∷ 9 ∷ 2 ∷ []) 15

-- restriction R: "Ex #i. A(fst('a'),f('a'))@i", whose parts are `i`, `A`, `fst`, `f` and the last `i`, behind it 15 words
abbrev pub two_faults : LocatedStatement
two_faults = restricted (codes "R") function_before (17 ∷ 15 ∷ 13 ∷ 8 ∷ 2 ∷ []) 15

-- lemma L: "A('a')@i", whose parts are `A` and `i`, behind it `process: 0 end`
abbrev pub unbound_time : LocatedStatement
unbound_time = record { statement = lemma (record { name = codes "L"; attributes = []; mode = AllTraces; formula = shows a i }); words = 7 ∷ 2 ∷ []; behind = 4 }

-- restriction N: "Ex #i. Init('a')@i", where `Init` is reserved, behind it 4 words
abbrev pub reserved_name : LocatedStatement
reserved_name = restricted (codes "N") (exists (Time i ∷ []) (named (codes "Init") i)) (9 ∷ 7 ∷ 2 ∷ []) 4

-- restriction S: "Ex #i. A(sdec('a','b'))@i", behind it 4 words
abbrev pub decrypts : LocatedStatement
decrypts = restricted (codes "S") decrypted (14 ∷ 12 ∷ 10 ∷ 2 ∷ []) 4

-- an item on this line
abbrev pub on_line : Item → ℕ → Standing
on_line v n = record { item = v; line = n }

-- the bytes are a file of these tokens over this signature, which nothing refuses before its uses are looked at, with these restrictions
-- and lemmas
pub record HasStatements (z : List ℕ) (ts : List Token) (g : Sig) (ls : List LocatedStatement) : Type 0 where
  pub name : List ℕ
  pub cut : List (List Placed)
  pub standing : List Standing
  pub parted : IsParted z ts name cut
  pub items : AreItems (signature_of standing) cut standing
  pub nothing : cause_of standing ≡ None
  pub signature_is : signature_of standing ≡ g
  pub statements_are : located_statements items ≡ ls
