-- The first use with another number of arguments, and its word.
use Rattle.std.proofs.Common.{◌≡◌, ◌==◌, ℕ, ◌+◌, true, false, List, [], ◌∷◌, ◌++◌, Option, None, Some, length, map, drop, refl, ap, ◌∙◌}
use Rattle.std.specs.Option.{option_map, option_or}
use Rattle.std.specs.Prelude.{if◌then◌else◌, slice_get}
use Rattle.sap_terms.proofs.PlainLaws.Lists.{drop_got}
use Rattle.sap_macro.specs.Located.{Located, nil_at, call_at, parallel_at, replicated_at, act_at, test_at, lookup_at, without_numbers}
use Rattle.sap_macro.specs.MacroCauses as plain
use Rattle.sap_macro.specs.MacroCauses.{Use, all_uses, parameter_count, uses}
use Rattle.sap_origin.specs.Definitions.{LocatedDefinition, plain_definition}
use Rattle.sap_origin.specs.Origins.{start}
use Rattle.sap_origin.specs.Reached.{Standing}
use Rattle.sap_use_words.specs.code.Words.{first_word}
use Rattle.sap_use_words.specs.WrittenUses.{LocatedUse, first_other, other_use, plain_use, uses_at, written_uses}

-- ---- without the words

map_append : {A B : Type 0} (f : A → B) (xs ys : List A) → map f (xs ++ ys) ≡ map f xs ++ map f ys
map_append f [] ys = refl
map_append f (x ∷ xs) ys = ap (λ l. f x ∷ l) (map_append f xs ys)

uses_written : (s : Standing) (p : Located) → map plain_use (uses_at s p) ≡ uses (without_numbers p)
uses_written s (nil_at k) = refl
uses_written s (call_at k f ts) = refl
uses_written s (parallel_at k p q) = map_append plain_use (uses_at s p) (uses_at s q) ∙ (λ i. uses_written s p i ++ uses_written s q i)
uses_written s (replicated_at k p) = uses_written s p
uses_written s (act_at k a p) = uses_written s p
uses_written s (test_at k t u p q) = map_append plain_use (uses_at s p) (uses_at s q) ∙ (λ i. uses_written s p i ++ uses_written s q i)
uses_written s (lookup_at k t x p q) = map_append plain_use (uses_at s p) (uses_at s q) ∙ (λ i. uses_written s p i ++ uses_written s q i)

pub all_written : (ds : List LocatedDefinition) (n : ℕ) (p : Located) → map plain_use (written_uses ds n p) ≡ all_uses (map plain_definition ds) (without_numbers p)
all_written [] n p = uses_written (start n) p
all_written (d ∷ ds) n p =
    map_append plain_use (uses_at (start d.behind) d.body) (written_uses ds n p) ∙ (λ i. uses_written (start d.behind) d.body i ++ all_written ds n p i)

-- the name of the first
name_of : Option LocatedUse → Option (List ℕ)
name_of o = option_map (λ (u : LocatedUse). u.name) o

first_name : (count : List ℕ → ℕ) (us : List LocatedUse) → option_map (λ (u : LocatedUse). u.name) (first_other count us) ≡ plain.first_other count (map plain_use us)
first_name count [] = refl
first_name count (u ∷ us) =
    elim (length u.args == count u.name) as (λ b. option_map (λ (u : LocatedUse). u.name) (if b then first_other count us else Some u) ≡ (if b then plain.first_other count (map plain_use us) else Some u.name)) [
      | true ↦ first_name count us
      | false ↦ refl
    ]

pub other_name : (ds : List LocatedDefinition) (n : ℕ) (p : Located)
    → option_map (λ (u : LocatedUse). u.name) (other_use ds n p) ≡ plain.first_other_count (map plain_definition ds) (without_numbers p)
other_name ds n p =
    first_name (parameter_count (map plain_definition ds)) (written_uses ds n p)
    ∙ ap (λ us. plain.first_other (parameter_count (map plain_definition ds)) us) (all_written ds n p)

-- ---- the word of the first

pub first_word_is : (count : List ℕ → ℕ) (us : List LocatedUse) → first_word count us ≡ option_map (λ (u : LocatedUse). u.word) (first_other count us)
first_word_is count [] = refl
first_word_is count (u ∷ us) =
    elim (length u.args == count u.name) as (λ b. (if b then first_word count us else Some u.word) ≡ option_map (λ (u : LocatedUse). u.word) (if b then first_other count us else Some u)) [
      | true ↦ first_word_is count us
      | false ↦ refl
    ]

pub word_append : (count : List ℕ → ℕ) (us vs : List LocatedUse) → first_word count (us ++ vs) ≡ option_or (first_word count us) (first_word count vs)
word_append count [] vs = refl
word_append count (u ∷ us) vs =
    elim (length u.args == count u.name) as (λ b. (if b then first_word count (us ++ vs) else Some u.word) ≡ option_or (if b then first_word count us else Some u.word) (first_word count vs)) [
      | true ↦ word_append count us vs
      | false ↦ refl
    ]

pub ruleset other_laws = (word_append)

-- ---- definitions one by one

pub word_pass : (count : List ℕ → ℕ) (n : ℕ) (p : Located) (ds : List LocatedDefinition) (k : ℕ) (d : LocatedDefinition) → slice_get ds k ≡ Some d
    → first_word count (uses_at (start d.behind) d.body) ≡ None → first_word count (written_uses (drop k ds) n p) ≡ first_word count (written_uses (drop (k + 1) ds) n p)
word_pass count n p ds k d is none =
    ap (λ xs. first_word count (written_uses xs n p)) (drop_got ds k d is) ∙ word_append count (uses_at (start d.behind) d.body) (written_uses (drop (k + 1) ds) n p)
    ∙ ap (λ o. option_or o (first_word count (written_uses (drop (k + 1) ds) n p))) none

pub word_found : (count : List ℕ → ℕ) (n : ℕ) (p : Located) (ds : List LocatedDefinition) (k : ℕ) (d : LocatedDefinition) (m : ℕ) → slice_get ds k ≡ Some d
    → first_word count (uses_at (start d.behind) d.body) ≡ Some m → first_word count (written_uses (drop k ds) n p) ≡ Some m
word_found count n p ds k d m is some =
    ap (λ xs. first_word count (written_uses xs n p)) (drop_got ds k d is) ∙ word_append count (uses_at (start d.behind) d.body) (written_uses (drop (k + 1) ds) n p)
    ∙ ap (λ o. option_or o (first_word count (written_uses (drop (k + 1) ds) n p))) some

-- the same by equal numbers
pub word_by : (a b : List ℕ → ℕ) (us : List LocatedUse) → ((f : List ℕ) → a f ≡ b f) → first_word a us ≡ option_map (λ (u : LocatedUse). u.word) (first_other b us)
word_by a b us h = (λ i. first_word (λ f. h f i) us) ∙ first_word_is b us
