-- What the answers of the code that reads items stand for.
use Rattle.std.specs.Prelude.{◌≡◌, ℕ, Bool, true, false, List, [], ◌∷◌, ◌++◌, map, Option, Some, None, Result, Ok, Err, ⊤}
use Rattle.sap_terms.specs.Signature.{Sig}
use Rattle.sap_terms.specs.declared.mem.Mem.{Mem}
use Rattle.sap_text.specs.declared.token.Token.{Token}
use Rattle.sap_read.specs.declared.entry.Entry.{Entry}
use Rattle.sap_grammar.specs.Words.{words_of}
use Rattle.sap_grammar.specs.Cut.{Placed, placed, first_line}
use Rattle.sap_grammar.specs.ItemReading.{cut}
use Rattle.sap_read.specs.Item.{Item, Body, body_of, bodies, stated_by, Standing, statements}
use Rattle.sap_statements.specs.declared.statement.Statement.{Statement}
use Rattle.sap_read.specs.ItemGrammar.{IsItem, IsSomeItem, AreItems}
use Rattle.sap_read.specs.LocatedItems.{LocatedBody, located_by, located_bodies}
use Rattle.sap_read.specs.Entries.{body, located_body}

-- the tokens are an item that says these of processes and these of traces
pub record IsItemOf (g : Sig) (bytes : List ℕ) (tokens : List Token) (said : List Body) (stated : List Statement) : Type 0 where
  pub item : Item
  pub spelled : IsItem g item (words_of bytes tokens)
  pub says : body_of item (first_line (placed bytes tokens)) ≡ said
  pub states : stated_by item ≡ stated

-- however the tokens are spelled as an item, behind which so many words of the file are, it says these of a process
abbrev pub AreLocated : Sig → List ℕ → List Token → ℕ → List LocatedBody → Type 0
AreLocated g bytes tokens behind places =
    (v : Item) (r : IsItem g v (words_of bytes tokens)) → located_by r (first_line (placed bytes tokens)) behind ≡ places

-- where it is an entry, the tokens, behind which so many words of the file are, are an item that says this of a process; where there is
-- none, they are no item
abbrev pub SaysProcess : Sig → List ℕ → List Token → ℕ → Result (Option Entry) Mem → Type 0
SaysProcess g bytes tokens behind (Err e) = ⊤
SaysProcess g bytes tokens behind (Ok None) = IsSomeItem (words_of bytes tokens) → ⊥
SaysProcess g bytes tokens behind (Ok (Some e)) =
    IsItemOf g bytes tokens (body e ∷ []) [] × AreLocated g bytes tokens behind (located_body e ∷ [])

-- the entry stands last, where there is one
abbrev pub IsPushed : Bool → Option Entry → List Entry → List Entry → Type 0
IsPushed b None before after = (b ≡ false) × (after ≡ before)
IsPushed b (Some e) before after = (b ≡ true) × (after ≡ before ++ e ∷ [])

-- the tokens are an item, and what it says of a process and of traces stands last
pub record IsAdding (g : Sig) (bytes : List ℕ) (tokens : List Token) (behind : ℕ) (before after : List Entry) (earlier later : List Statement) : Type 0 where
  pub said : List Body
  pub stated : List Statement
  pub places : List LocatedBody
  pub is : IsItemOf g bytes tokens said stated
  pub are_located : AreLocated g bytes tokens behind places
  pub bodies_are : map body after ≡ map body before ++ said
  pub places_are : map located_body after ≡ map located_body before ++ places
  pub statements_are : later ≡ earlier ++ stated

-- it is so, or they are no item
abbrev pub IsAdded : Sig → List ℕ → List Token → ℕ → List Entry → List Entry → List Statement → List Statement → Bool → Type 0
IsAdded g bytes tokens behind before after earlier later true = IsAdding g bytes tokens behind before after earlier later
IsAdded g bytes tokens behind before after earlier later false = IsSomeItem (words_of bytes tokens) → ⊥

-- the pieces are items that say these of processes and of traces, in order
pub record AreSaid (g : Sig) (cut : List (List Placed)) (entries : List Entry) (stated : List Statement) : Type 0 where
  pub standing : List Standing
  pub items : AreItems g cut standing
  pub bodies_are : map body entries ≡ bodies standing
  pub statements_are : stated ≡ statements standing
  pub places_are : (js : List Standing) (r : AreItems g cut js) → located_bodies r ≡ map located_body entries

-- behind these entries and restrictions and lemmas the items of the tokens `rest` are the last of those of all tokens
abbrev pub IsGoodBehind : Sig → List ℕ → List Token → List Token → List Entry → List Statement → Type 0
IsGoodBehind g bytes tokens rest entries earlier =
    (is : List Standing) → AreItems g (cut (placed bytes rest)) is
    → (js : List Standing) × AreItems g (cut (placed bytes tokens)) js × (map body entries ++ bodies is ≡ bodies js) × (earlier ++ statements is ≡ statements js)

-- the pieces are items, and behind these what they say of processes is all of that
pub record AreLeft (g : Sig) (cut : List (List Placed)) (before all : List LocatedBody) : Type 0 where
  pub standing : List Standing
  pub items : AreItems g cut standing
  pub all_is : all ≡ before ++ located_bodies items

-- so it is behind these entries with the items of the tokens `rest`, however the items of all tokens are spelled
abbrev pub AreLocatedBehind : Sig → List ℕ → List Token → List Token → List Entry → Type 0
AreLocatedBehind g bytes tokens rest entries =
    (js : List Standing) (r : AreItems g (cut (placed bytes tokens)) js)
    → AreLeft g (cut (placed bytes rest)) (map located_body entries) (located_bodies r)
