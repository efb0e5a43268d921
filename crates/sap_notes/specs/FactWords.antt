-- Which words of a file begin a fact that a restriction or a lemma speaks of, or that its process shows.
use Rattle.std.specs.Prelude.{◌≡◌, ◌<◌, ◌⊎◌, ℕ, zero, suc, Bool, true, false, not, ◌&&◌, ◌||◌, codes, List, Option, Some, None, drop, if◌then◌else◌}
use Rattle.sap_terms.specs.Signature.{Sig}
use Rattle.sap_terms.specs.declared.fact.Fact.{Fact}
use Rattle.sap_text.specs.declared.token.Token.{Token}
use Rattle.sap_grammar.specs.FactGrammar.{IsShortFact}
use Rattle.sap_grammar.specs.Words.{Word, words_of}
use Rattle.sap_draft.specs.declared.limits.TheConstants.{FILE_LIMITS}
use Rattle.sap_uses.specs.ScopeFlaws.{LeadsTo}
use Rattle.sap_where.specs.Beginnings.{begins_item}
use Rattle.sap_where.specs.FileDeclarations.{in_item}
use Rattle.sap_where.specs.TokenWords.{stands}
use Rattle.sap_notes.specs.Contents.{Content}
use Rattle.sap_notes.specs.Facts.{fact_key}
use Rattle.sap_notes.specs.NotedWords.{IsDefinedAt}

-- the words from token number k on begin with this fact
pub record IsFactAt (g : Sig) (z : List ℕ) (ts : List Token) (x : List ℕ) (k : ℕ) : Type 0 where
  pub fact : Fact
  pub key : fact_key fact ≡ x
  pub behind : List Word
  pub spelled : IsShortFact g FILE_LIMITS false fact (words_of z (drop k ts)) behind

-- token number k stands in a restriction or a lemma: a fact that begins in one is one of its formula
abbrev pub in_statement : List ℕ → List Token → ℕ → Bool
in_statement z ts k = in_item z ts (codes "restriction") k || in_item z ts (codes "lemma") k

-- behind `event`
abbrev pub is_behind_event : List ℕ → List Token → ℕ → Bool
is_behind_event z ts zero = false
is_behind_event z ts (suc k) = stands z ts (codes "event") k

-- between the signs round what a rule shows: of these the last before it is the first of the two
abbrev pub is_in_arrow : List ℕ → List Token → ℕ → Bool
is_in_arrow z ts zero = false
is_in_arrow z ts (suc k) = stands z ts (codes "--[") k || (is_in_arrow z ts k && not (stands z ts (codes "]->") k))

-- a fact that begins with token number k is shown
abbrev pub is_shown : List ℕ → List Token → ℕ → Bool
is_shown z ts k = is_behind_event z ts k || is_in_arrow z ts k

-- the last token before number k that begins an item
abbrev pub item_before : List ℕ → List Token → ℕ → Option ℕ
item_before z ts zero = None
item_before z ts (suc k) = if begins_item (words_of z (drop k ts)) then Some k else item_before z ts k

-- the item that begins there is the file's process, or a definition to which it leads
abbrev pub IsRunItem : List ℕ → List Token → Content → Option ℕ → Type 0
IsRunItem z ts f None = ⊥
IsRunItem z ts f (Some i) = (stands z ts (codes "process") i ≡ true)
    ⊎ ((x : List ℕ) × IsDefinedAt z ts x (suc i) × LeadsTo f.definitions f.process x)

-- a restriction or a lemma speaks of this fact at token number k; and none before it
pub record IsSaidAt (z : List ℕ) (ts : List Token) (f : Content) (x : List ℕ) (k : ℕ) : Type 0 where
  pub is : IsFactAt f.signature z ts x k
  pub said : in_statement z ts k ≡ true

pub record IsFirstSaidAt (z : List ℕ) (ts : List Token) (f : Content) (x : List ℕ) (k : ℕ) : Type 0 where
  pub here : IsSaidAt z ts f x k
  pub none_before : (i : ℕ) → i < k → IsSaidAt z ts f x i → ⊥

-- the file's process, or a definition to which it leads, shows this fact at token number k; and none before it
pub record IsShownAt (z : List ℕ) (ts : List Token) (f : Content) (x : List ℕ) (k : ℕ) : Type 0 where
  pub is : IsFactAt f.signature z ts x k
  pub shown : is_shown z ts k ≡ true
  pub runs : IsRunItem z ts f (item_before z ts k)

pub record IsFirstShownAt (z : List ℕ) (ts : List Token) (f : Content) (x : List ℕ) (k : ℕ) : Type 0 where
  pub here : IsShownAt z ts f x k
  pub none_before : (i : ℕ) → i < k → IsShownAt z ts f x i → ⊥
