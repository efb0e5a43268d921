-- Digests of facts, and which facts of a time have which digest.
use Rattle.std.specs.Prelude.{◌≡◌, ℕ, true, nat_eq, List, [], ◌∷◌, ◌++◌, map, Option, Some, None}
use denote.Ref.{Bor}
use Rattle.std.specs.Hash as fed
use Rattle.std.specs.Hash.FoldHasher.{finish, initial, write}
use Rattle.std.specs.List.{filter, fold}
use Rattle.std.proofs.Common.{FoldHasher}
use Rattle.indexmap.specs.IndexMap.{IndexMap, get}
use Rattle.sap_match.specs.Atoms.{Atom, Held}
use Rattle.sap_match.specs.Matched.{behind, fits_atom, next_term, onward}
use Rattle.sap_terms.specs.Tree.{Tree, Trees, apply, fresh, more, none, public, trees_of, variable}
use Rattle.sap_terms.specs.code.Hashed.{fed_tree, fed_trees}
use Rattle.sap_terms.specs.declared.fact.Fact.{Fact}

-- what a fact of this name feeds before its arguments
abbrev pub fed_name : List ℕ → FoldHasher
fed_name n = fold write initial (fed.slice fed.u8 n)

-- the digest of a fact's name and arguments
unfoldable pub fact_digest : Fact → ℕ
fact_digest x = finish (fold write (fed_name x.name) (fed_trees (trees_of x.args)))

-- what a hasher got, and what is left to read of the marks
pub record Fed : Type 0 where
  pub hasher : FoldHasher
  pub marks : List (Option ℕ)

-- where variables are what their slots hold, the hasher that has got what the term feeds; none where a variable has no term
abbrev mutual
  pub fed_by : Tree → List (Option ℕ) → List Held → FoldHasher → Option Fed
  fed_by (variable v) ms held h = onward (next_term ms held) (λ u. Some (record { hasher = fold write h (fed_tree u); marks = behind ms }))
  fed_by (public n) ms held h = Some (record { hasher = fold write h (fed_tree (public n)); marks = ms })
  fed_by (fresh k) ms held h = Some (record { hasher = fold write h (fed_tree (fresh k)); marks = ms })
  fed_by (apply f ps) ms held h = fed_by_all ps ms held (fold write (fold write h (fed.u8 3)) (fed.slice fed.u8 f))

  pub fed_by_all : Trees → List (Option ℕ) → List Held → FoldHasher → Option Fed
  fed_by_all none ms held h = Some (record { hasher = h; marks = ms })
  fed_by_all (more p ps) ms held h = onward (fed_by p ms held h) (λ r. fed_by_all ps r.marks held r.hasher)

-- each fact that fits the atom has this digest
abbrev pub IsDigestOf : ℕ → List ℕ → Atom → List Held → Type 0
IsDigestOf d n a held = (x : Fact) → fits_atom n a held x ≡ true → nat_eq (fact_digest x) d ≡ true

-- the facts of this digest
abbrev pub of_digest : ℕ → List Fact → List Fact
of_digest d xs = filter (λ x. nat_eq (fact_digest x) d) xs

-- a fact that is lent
abbrev pub fact_in : Bor Fact → Fact
fact_in r = r.now

-- what a bucket has, nothing where there is none
abbrev pub in_bucket : Option (List (Bor Fact)) → List Fact
in_bucket None = []
in_bucket (Some xs) = map fact_in xs

-- what the bucket of a digest has
abbrev pub bucket : {S : Type 0} → IndexMap ℕ (List (Bor Fact)) S → ℕ → List Fact
bucket buckets d = in_bucket (get nat_eq buckets d)

-- the fact stands last in the bucket of its digest, and the others are as they were
abbrev pub PutsFact : {S : Type 0} → IndexMap ℕ (List (Bor Fact)) S → IndexMap ℕ (List (Bor Fact)) S → Fact → Type 0
PutsFact old new x = (d : ℕ) → bucket new d ≡ bucket old d ++ of_digest d (x ∷ [])

-- each bucket has the facts of its digest
abbrev pub AreBuckets : {S : Type 0} → List Fact → IndexMap ℕ (List (Bor Fact)) S → Type 0
AreBuckets xs buckets = (d : ℕ) → bucket buckets d ≡ of_digest d xs
