-- The items of a file, whose processes know the words that tell their places.
use Rattle.std.specs.Prelude.{ℕ, ◌+◌, List, [], ◌∷◌, ◌++◌, Option, Some, None, if◌then◌else◌, is_none, length}
use Rattle.sap_terms.specs.Signature.{Sig}
use Rattle.sap_grammar.specs.Words.{Word}
use Rattle.sap_grammar.specs.Cut.{Placed, first_line}
use Rattle.sap_grammar.specs.Items.{items_end, items_more}
use Rattle.sap_draft.specs.LocatedProcesses.{par_located}
use Rattle.sap_macro.specs.Located.{Located, without_numbers}
use Rattle.sap_origin.specs.Definitions.{LocatedDefinition}
use Rattle.sap_read.specs.Item.{Item, Standing, Body}
use Rattle.sap_read.specs.ItemGrammar.{IsItem, AreItems, item_builtins, item_functions, item_definition, item_process, item_statement}

-- what an item says of a process, with the words of its places: how many words of the item are left from each, and how many words
-- of the file are behind the item
pub record LocatedBody : Type 0 where
  pub label : Option (List ℕ)
  pub params : List (List ℕ)
  pub content : Located
  pub line : ℕ
  pub behind : ℕ

-- without these numbers
abbrev pub plain_body : LocatedBody → Body
plain_body b = record { label = b.label; params = b.params; content = without_numbers b.content; line = b.line }

-- what the item that words spell on this line says of a process, where so many words of the file are behind it; an item of another kind
-- says nothing
abbrev pub located_by : {g : Sig} {v : Item} {a : List Word} → IsItem g v a → (line behind : ℕ)
    → List LocatedBody
located_by (item_builtins r) line behind = []
located_by (item_functions r) line behind = []
located_by (item_definition {x = x} {xs = xs} h r) line behind =
    record { label = Some x; params = xs; content = par_located r.spelled; line = line; behind = behind }
    ∷ []
located_by (item_process r) line behind =
    record { label = None; params = []; content = par_located r.spelled; line = line; behind = behind }
    ∷ []
located_by (item_statement r) line behind = []

-- how many words these pieces have
abbrev pub word_count : List (List Placed) → ℕ
word_count [] = 0
word_count (i ∷ is) = length i + word_count is

-- what the items that are spelled say of processes, in order
abbrev pub located_bodies : {g : Sig} {cut : List (List Placed)} {is : List Standing}
    → AreItems g cut is → List LocatedBody
located_bodies (items_end e) = []
located_bodies (items_more {i = i} {is = is} r rs) =
    located_by r (first_line i) (word_count is) ++ located_bodies rs

-- the definitions among them, in order
abbrev pub defined_at : Option (List ℕ) → LocatedBody → List LocatedDefinition
defined_at None b = []
defined_at (Some x) b =
    record { name = x; params = b.params; body = b.content; behind = b.behind } ∷ []

abbrev pub definitions_at : List LocatedBody → List LocatedDefinition
definitions_at [] = []
definitions_at (b ∷ bs) = defined_at b.label b ++ definitions_at bs

-- a process, and how many words of the file are behind its item
pub record LocatedMain : Type 0 where
  pub process : Located
  pub behind : ℕ

-- the file's own process, the first where there are several
abbrev pub main_at : List LocatedBody → Option LocatedMain
main_at [] = None
main_at (b ∷ bs) =
    if is_none b.label then Some (record { process = b.content; behind = b.behind }) else main_at bs
