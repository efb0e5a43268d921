-- Cutting and reading from the left: the header, the items, and what those of builtins and functions declare. Laws tie it to the grammar.
use Rattle.std.specs.Prelude.{ℕ, ◌+◌, zero, suc, Bool, true, false, not, ◌&&◌, nat_le, if◌then◌else◌, codes, List, [], ◌∷◌, ◌++◌, length, drop, Option, Some, None, is_some}
use Rattle.std.specs.List.{prefix_len}
use Rattle.sap_terms.specs.declared.signature.Symbol.{Symbol}
use Rattle.sap_terms.specs.declared.signature.Builtin.{Builtin}
use Rattle.sap_terms.specs.declared.signature.Builtin.TheVariants.{Hashing, Symmetric, Asymmetric, Signing, RevealingSigning}
use Rattle.sap_grammar.specs.Words.{Word, starts, is_lower}
use Rattle.sap_grammar.specs.Reading.{Read, Reader, given, name_at, number_at, names}
use Rattle.sap_grammar.specs.Declarations.{Declaration, of_builtin, of_symbol, value}
use Rattle.sap_grammar.specs.Cut.{Placed, words, begins_item}
use Rattle.sap_terms.specs.declared.limits.TheConstants.{MOST_ARITY}

-- no item begins here
abbrev pub goes_on : Placed → Bool
goes_on p = not (begins_item p)

-- how many of these words belong to the item that stands before them
abbrev pub count_on : List Placed → ℕ
count_on ps = prefix_len goes_on ps

-- the word in front of the first item, or alone
abbrev pub joined : Placed → List (List Placed) → List (List Placed)
joined p [] = (p ∷ []) ∷ []
joined p (i ∷ is) = (p ∷ i) ∷ is

-- there are no more, or an item begins
abbrev pub starts_item : List Placed → Bool
starts_item [] = true
starts_item (p ∷ ps) = begins_item p

-- the items that the words are
abbrev pub cut : List Placed → List (List Placed)
cut [] = []
cut (p ∷ ps) = if starts_item ps then (p ∷ []) ∷ cut ps else joined p (cut ps)

-- behind the first name of a builtin: a dash and this name
abbrev pub is_joined : List ℕ → List Word → Bool
is_joined x ws = starts (codes "-") ws && names x (drop 1 ws)

abbrev pub builtin_at : Reader Builtin
builtin_at ws =
    if names (codes "hashing") ws then Some (Hashing, drop 1 ws)
    else if names (codes "signing") ws then Some (Signing, drop 1 ws)
    else if is_joined (codes "encryption") (drop 1 ws) then
    (if names (codes "symmetric") ws then Some (Symmetric, drop 3 ws)
    else if names (codes "asymmetric") ws then Some (Asymmetric, drop 3 ws)
    else None)
    else if is_joined (codes "signing") (drop 1 ws) then
    (if names (codes "revealing") ws then Some (RevealingSigning, drop 3 ws) else None)
    else None

-- the value of these digits, where it is an arity
abbrev pub arity_of_digits : List ℕ → Option ℕ
arity_of_digits ds = if nat_le (value ds) MOST_ARITY then Some (value ds) else None

abbrev pub small_value : Option (List ℕ) → Option ℕ
small_value None = None
small_value (Some ds) = arity_of_digits ds

-- the arity that stands first
abbrev pub arity_at : List Word → Option ℕ
arity_at ws = small_value (number_at ws)

abbrev pub is_private : List Word → Bool
is_private ws = starts (codes "[") ws && (names (codes "private") (drop 1 ws) && starts (codes "]") (drop 2 ws))

abbrev pub with_privacy : List ℕ → ℕ → Reader Symbol
with_privacy f n ws =
    if is_private ws then Some (record { name = f; arity = n; private = true }, drop 3 ws)
    else Some (record { name = f; arity = n; private = false }, ws)

abbrev pub symbol_at : Reader Symbol
symbol_at ws = given (name_at ws) (λ f. given (arity_at (drop 2 ws)) (λ n.
    if is_lower f && starts (codes "/") (drop 1 ws) then with_privacy f n (drop 3 ws) else None))

-- another value in the place of what was read
abbrev pub mapped : {A B : Type 0} → (A → B) → Read A → Read B
mapped f None = None
mapped f (Some p) = Some (f p.0, p.1)

-- what an item of builtins, or else of functions, declares first
abbrev pub declaration_at : Bool → Reader Declaration
declaration_at true ws = mapped of_builtin (builtin_at ws)
declaration_at false ws = mapped of_symbol (symbol_at ws)

-- no word is left
abbrev pub is_over : List Word → Bool
is_over [] = true
is_over (w ∷ ws) = false

-- the value and these words, where something was read
abbrev pub on_read : {A B : Type 0} → Read A → (A → List Word → Option B) → Option B
on_read None k = None
on_read (Some p) k = k p.0 p.1

-- these stand in front
abbrev pub in_front : {A : Type 0} → List A → Option (List A) → Option (List A)
in_front xs None = None
in_front xs (Some ys) = Some (xs ++ ys)

-- these, or nothing
abbrev pub given_if : {A : Type 0} → Bool → A → Option A
given_if t x = if t then Some x else None

-- values with commas between them, to the last word; the number bounds the turns
unfoldable pub whole_list : {A : Type 0} → Reader A → ℕ → List Word → Option (List A)
whole_list u zero ws = None
whole_list u (suc n) ws = on_read (u ws) (λ x r.
    if is_over r then Some (x ∷ [])
    else if starts (codes ",") r then in_front (x ∷ []) (whole_list u n (drop 1 r))
    else None)

-- behind the first word of an item
abbrev pub behind_colon : Bool → List Word → Option (List Declaration)
behind_colon is_builtins ws =
    if starts (codes ":") ws then whole_list (declaration_at is_builtins) (length (drop 1 ws) + 1) (drop 1 ws) else None

-- what an item of builtins or functions declares, where the words are one
abbrev pub declared_in : List Word → Option (List Declaration)
declared_in ws =
    if starts (codes "builtins") ws then behind_colon true (drop 1 ws)
    else if starts (codes "functions") ws then behind_colon false (drop 1 ws)
    else None

-- nothing where there is none
abbrev pub told : Option (List Declaration) → List Declaration
told None = []
told (Some ds) = ds

-- what the items declare, in order; one that is in no grammar declares nothing
abbrev pub declared_in_all : List (List Placed) → List Declaration
declared_in_all [] = []
declared_in_all (i ∷ is) = told (declared_in (words i)) ++ declared_in_all is

-- the first of two, if there is one
abbrev pub kept : {A : Type 0} → Option A → Option A → Option A
kept a b = if is_some a then a else b

-- the name in the header that these words begin with
abbrev pub header_of : List Word → Option (List ℕ)
header_of ws = if starts (codes "theory") ws && starts (codes "begin") (drop 2 ws) then name_at (drop 1 ws) else None
