-- Where in a file the first of two words stands of which the second is told, and the definition of a use.
use Rattle.std.specs.Prelude.{◌≡◌, ◌<◌, ◌+◌, ℕ, Bool, true, false, List, [], length, map, None}
use Rattle.std.specs.Option.{option_map_or}
use Rattle.std.specs.Str.{bytes_eq}
use Rattle.sap_terms.specs.Signature.{builtin_symbols, find_symbol, pairs_alone}
use Rattle.sap_terms.specs.Variables.{is_known}
use Rattle.sap_terms.specs.declared.signature.Symbol.{Symbol}
use Rattle.sap_text.specs.declared.token.Token.{Token}
use Rattle.sap_grammar.specs.Declarations.{Declaration, of_builtin, of_symbol}
use Rattle.sap_restrict.specs.Restrictions.{is_generated}
use Rattle.sap_read.specs.Files.{AreTokens}
use Rattle.sap_read.specs.declared.fault.ReadFault.{ReadFault}
use Rattle.sap_read.specs.declared.fault.ReadFault.TheVariants.{Arguments, DuplicateName, FunctionClash, Parameters, TwoProcesses}
use Rattle.sap_stretches.specs.Stretches.{stretch_at}
use Rattle.sap_stretches.specs.declared.stretch.Stretch.{Stretch}
use Rattle.sap_where.specs.declared.find.Beginning.TheVariants.{Definition, Process, Statement}
use Rattle.sap_where.specs.FileDeclarations.{IsClashAt, declared_at}
use Rattle.sap_where.specs.Parameters.{IsParameter}
use Rattle.sap_where.specs.Where.{BeginsAt, HoldsOnce, IsFirst, IsRepeatedAt, IsSecond}

-- it declares this name, of a builtin by one of its symbols
abbrev pub declares : List ℕ → Declaration → Bool
declares x (of_builtin b) = is_known (map (λ (s : Symbol). s.name) (builtin_symbols b)) x
declares x (of_symbol s) = bytes_eq s.name x

-- what is declared with token number k as its first word declares this name
pub record DeclaresAt (z : List ℕ) (ts : List Token) (x : List ℕ) (k : ℕ) : Type 0 where
  pub inside : k < length ts
  pub is : option_map_or (declares x) (declared_at z ts k) false ≡ true

-- with token number k the first of two items begins that have this name: of definitions, or, where none is defined twice, of restrictions
-- and lemmas
pub data IsTakenFirstAt (z : List ℕ) (ts : List Token) (x : List ℕ) : ℕ → Type 0 where
  first_definition : {j k : ℕ} → IsSecond (BeginsAt z ts Definition x) k → IsFirst (BeginsAt z ts Definition x) j
      → IsTakenFirstAt z ts x j
  first_statement : {j k : ℕ} → HoldsOnce (BeginsAt z ts Definition x) → IsSecond (BeginsAt z ts Statement x) k
      → IsFirst (BeginsAt z ts Statement x) j → IsTakenFirstAt z ts x j

-- token j is the name where it stands first among the parameters of the definition in which it is told to stand twice
pub record IsRepeatedFirstAt (z : List ℕ) (ts : List Token) (x : List ℕ) (j : ℕ) : Type 0 where
  pub second : ℕ
  pub repeated : IsRepeatedAt z ts x second
  pub first : IsFirst (IsParameter z ts x repeated.item) j

-- token j is the first word of the first declaration of the name, before the one that is told to clash
pub record IsDeclaredFirstAt (z : List ℕ) (ts : List Token) (x : List ℕ) (j : ℕ) : Type 0 where
  pub second : ℕ
  pub clash : IsClashAt z ts x second
  pub first : IsFirst (DeclaresAt z ts x) j
  pub before : j < second

-- the stretch is the other place of this cause, where its words place it: the first of two words `process`; the name behind the first
-- word of the first of two items that have it; a parameter where it stands first; the first word of the first declaration of a name
-- that clashes; the name behind the `let` of what is used with another number of arguments
pub data IsOtherWhere (z : List ℕ) : ReadFault → Stretch → Type 0 where
  first_process : {ts : List Token} {line j k : ℕ} {s : Stretch} → AreTokens z ts → IsSecond (BeginsAt z ts Process []) k
      → IsFirst (BeginsAt z ts Process []) j → s ≡ stretch_at ts j → IsOtherWhere z (TwoProcesses line) s
  first_name : {ts : List Token} {x : List ℕ} {j : ℕ} {s : Stretch} → AreTokens z ts → IsTakenFirstAt z ts x j
      → s ≡ stretch_at ts (j + 1) → IsOtherWhere z (DuplicateName x) s
  first_parameter : {ts : List Token} {x : List ℕ} {j : ℕ} {s : Stretch} → AreTokens z ts → IsRepeatedFirstAt z ts x j
      → s ≡ stretch_at ts j → IsOtherWhere z (Parameters x) s
  first_declaration : {ts : List Token} {x : List ℕ} {j : ℕ} {s : Stretch} → AreTokens z ts → IsDeclaredFirstAt z ts x j
      → s ≡ stretch_at ts j → IsOtherWhere z (FunctionClash x) s
  its_definition : {ts : List Token} {x : List ℕ} {j : ℕ} {s : Stretch} → AreTokens z ts
      → IsFirst (BeginsAt z ts Definition x) j → s ≡ stretch_at ts (j + 1) → IsOtherWhere z (Arguments x) s

-- these causes have another place in each file that is refused for them: but for the name of a restriction that is generated, which one
-- item alone may have, and for a symbol of pairs, which no word need declare
pub data HasOtherStretch : ReadFault → Type 0 where
  processes_have_first : (line : ℕ) → HasOtherStretch (TwoProcesses line)
  names_have_first : (x : List ℕ) → is_generated x ≡ false → HasOtherStretch (DuplicateName x)
  parameters_have_first : (x : List ℕ) → HasOtherStretch (Parameters x)
  declarations_have_first : (x : List ℕ) → find_symbol pairs_alone.symbols x ≡ None → HasOtherStretch (FunctionClash x)
  uses_have_definition : (x : List ℕ) → HasOtherStretch (Arguments x)
