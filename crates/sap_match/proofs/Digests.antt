-- What a pattern feeds, where its variables are what their slots hold, is what each tree feeds that it fits.
use Rattle.std.proofs.Common.{◌≡◌, ℕ, ◌+◌, ◌<◌, ◌≤◌, append-nil, append_assoc, cond, map, take, List, [], ◌∷◌, ◌++◌, Bool, true, false, ◌&&◌, Option, Some, None, FoldHasher, drop, length, slice_get, nat_eq, refl, sym, ap, ◌∙◌, if◌then◌else◌, arith}
use Rattle.std.specs.Hash as fed
use Rattle.std.specs.Hash.FoldHasher.{finish, write}
use Rattle.std.specs.List.{fold, list_any}
use Rattle.std.specs.Str.{bytes_eq}
use denote.Ref.{Bor}
use Rattle.std.proofs.lemmas.Bool.Decides.{Decides-eqb, nat_tests}
use Rattle.std.proofs.lemmas.List.{map_push}
use Rattle.std.proofs.lemmas.List.Sums.{fold-append}
use Rattle.std.proofs.lemmas.Map.Views.{any-filter_same}
use Rattle.std.proofs.lemmas.Slice.Eq.{bytes_eq-Decides}
use Rattle.sap_match.proofs.Agreements.{behind_drop}
use Rattle.std.proofs.Math.ListN.{drop_of_length-le}
use Rattle.indexmap.specs.IndexMap.{IndexMap, get}
use Rattle.sap_match.specs.code.Digests.{AreBuckets, Fed, IsDigestOf, PutsFact, bucket, fact_digest, fact_in, fed_by, fed_by_all, fed_name, in_bucket, of_digest}
use Rattle.sap_match.specs.Atoms.{Atom, Held, held_term, held_time}
use Rattle.sap_match.specs.Matched.{State, behind, fits_atom, is_held, is_there, matched, matched_all, next_term, onward, term_in}
use Rattle.sap_terms.proofs.PlainLaws.Lists.{drop_got, take_got}
use Rattle.sap_terms.proofs.PlainLaws.Tests.{same_tree-sound}
use Rattle.sap_terms.specs.Same.{same_tree}
use Rattle.sap_terms.specs.Tree.{Tree, Trees, apply, fresh, more, none, public, trees_of, variable}
use Rattle.sap_terms.specs.code.Hashed.{fed_tree, fed_trees}
use Rattle.sap_terms.specs.declared.fact.Fact.{Fact}
use Rattle.sap_terms.specs.declared.var.Var.{Var}

-- a variable whose slot holds this
slot_alike : (o : Option Held) (t : Tree) (ms : List (Option ℕ)) (held : List Held) (h : FoldHasher) (r : Fed) (q : State)
    → onward (term_in o) (λ u. Some (record { hasher = fold write h (fed_tree u); marks = ms })) ≡ Some r
    → onward (if is_held o (held_term t) then Some held else None) (λ hs. Some (record { marks = ms; held = hs })) ≡ Some q
    → (q ≡ record { marks = r.marks; held = held }) × (r.hasher ≡ fold write h (fed_tree t))
slot_alike None t ms held h r q e m = absurd (cc)
slot_alike (Some (held_time k)) t ms held h r q e m = absurd (cc)
slot_alike (Some (held_term u)) t ms held h r q e m = by (same_tree u t) refl m where
  by : (b : Bool) → same_tree u t ≡ b → onward (if b then Some held else None) (λ hs. Some (record { marks = ms; held = hs })) ≡ Some q
      → (q ≡ record { marks = r.marks; held = held }) × (r.hasher ≡ fold write h (fed_tree t))
  by false s n = absurd (cc)
  by true s n =
      let same : u ≡ t = same_tree-sound u t s in
      let got : r ≡ record { hasher = fold write h (fed_tree u); marks = ms } = cc in
      let left : q ≡ record { marks = ms; held = held } = cc in
      (left ∙ ap (λ (z : Fed). record { marks = z.marks; held = held }) (sym got), ap (λ (z : Fed). z.hasher) got ∙ ap (λ z. fold write h (fed_tree z)) same)

-- a leaf
leaf_alike : (p t : Tree) (ms : List (Option ℕ)) (held : List Held) (h : FoldHasher) (r : Fed) (q : State)
    → Some (record { hasher = fold write h (fed_tree p); marks = ms }) ≡ Some r
    → (if same_tree p t then Some (record { marks = ms; held = held }) else None) ≡ Some q
    → (q ≡ record { marks = r.marks; held = held }) × (r.hasher ≡ fold write h (fed_tree t))
leaf_alike p t ms held h r q e m = by (same_tree p t) refl m where
  by : (b : Bool) → same_tree p t ≡ b → (if b then Some (record { marks = ms; held = held }) else None) ≡ Some q
      → (q ≡ record { marks = r.marks; held = held }) × (r.hasher ≡ fold write h (fed_tree t))
  by false s n = absurd (cc)
  by true s n =
      let same : p ≡ t = same_tree-sound p t s in
      let got : r ≡ record { hasher = fold write h (fed_tree p); marks = ms } = cc in
      let left : q ≡ record { marks = ms; held = held } = cc in
      (left ∙ ap (λ (z : Fed). record { marks = z.marks; held = held }) (sym got), ap (λ (z : Fed). z.hasher) got ∙ ap (λ z. fold write h (fed_tree z)) same)

-- a symbol on terms, where this holds of the terms
apply_alike : (f g : List ℕ) (ps ts : Trees) (ms : List (Option ℕ)) (held : List Held) (h : FoldHasher) (r : Fed) (q : State)
    → (matched_all ps ts (record { marks = ms; held = held }) ≡ Some q → (q ≡ record { marks = r.marks; held = held }) × (r.hasher ≡ fold write (fold write (fold write h (fed.u8 3)) (fed.slice fed.u8 f)) (fed_trees ts)))
    → (b : Bool) → bytes_eq f g ≡ b → (if b then matched_all ps ts (record { marks = ms; held = held }) else None) ≡ Some q
    → (q ≡ record { marks = r.marks; held = held }) × (r.hasher ≡ fold write h (fed_tree (apply g ts)))
apply_alike f g ps ts ms held h r q all false s n = absurd (cc)
apply_alike f g ps ts ms held h r q all true s n =
    let same : f ≡ g = (bytes_eq-Decides f g).0 s in
    let i = all n in
    (i.0, i.1 ∙ sym (fold-append write (fold write h (fed.u8 3)) (fed.slice fed.u8 f) (fed_trees ts)) ∙ ap (λ z. fold write h (fed_tree (apply z ts))) same)

-- one term more, where this holds of it and of the others
more_alike : (p : Tree) (ps : Trees) (t : Tree) (ts : Trees) (ms : List (Option ℕ)) (held : List Held) (h : FoldHasher) (r : Fed) (q : State)
    → ((a : Fed) (b : State) → fed_by p ms held h ≡ Some a → matched p t (record { marks = ms; held = held }) ≡ Some b → (b ≡ record { marks = a.marks; held = held }) × (a.hasher ≡ fold write h (fed_tree t)))
    → ((ms : List (Option ℕ)) (h : FoldHasher) → fed_by_all ps ms held h ≡ Some r → matched_all ps ts (record { marks = ms; held = held }) ≡ Some q → (q ≡ record { marks = r.marks; held = held }) × (r.hasher ≡ fold write h (fed_trees ts)))
    → (a : Option Fed) → fed_by p ms held h ≡ a → onward a (λ r. fed_by_all ps r.marks held r.hasher) ≡ Some r
    → (b : Option State) → matched p t (record { marks = ms; held = held }) ≡ b → onward b (matched_all ps ts) ≡ Some q
    → (q ≡ record { marks = r.marks; held = held }) × (r.hasher ≡ fold write h (fed_trees (more t ts)))
more_alike p ps t ts ms held h r q one all None d e b c m = absurd (cc)
more_alike p ps t ts ms held h r q one all (Some a) d e None c m = absurd (cc)
more_alike p ps t ts ms held h r q one all (Some a) d e (Some b) c m =
    let i = one a b d c in
    let n : matched_all ps ts (record { marks = a.marks; held = held }) ≡ Some q = ap (matched_all ps ts) (sym i.0) ∙ m in
    let j = all a.marks a.hasher e n in
    (j.0, j.1 ∙ ap (λ z. fold write z (fed_trees ts)) i.1 ∙ sym (fold-append write h (fed_tree t) (fed_trees ts)))

mutual
  fed_alike : (p t : Tree) (ms : List (Option ℕ)) (held : List Held) (h : FoldHasher) (r : Fed) (q : State) → fed_by p ms held h ≡ Some r → matched p t (record { marks = ms; held = held }) ≡ Some q
      → (q ≡ record { marks = r.marks; held = held }) × (r.hasher ≡ fold write h (fed_tree t))
  fed_alike (variable v) t [] held h r q e m = absurd (cc)
  fed_alike (variable v) t (None ∷ ms) held h r q e m = absurd (cc)
  fed_alike (variable v) t (Some k ∷ ms) held h r q e m = slot_alike (slice_get held k) t ms held h r q e m
  fed_alike (public n) t ms held h r q e m = leaf_alike (public n) t ms held h r q e m
  fed_alike (fresh k) t ms held h r q e m = leaf_alike (fresh k) t ms held h r q e m
  fed_alike (apply f ps) (variable v) ms held h r q e m = absurd (cc)
  fed_alike (apply f ps) (public n) ms held h r q e m = absurd (cc)
  fed_alike (apply f ps) (fresh k) ms held h r q e m = absurd (cc)
  fed_alike (apply f ps) (apply g ts) ms held h r q e m = apply_alike f g ps ts ms held h r q (all_alike ps ts ms held (fold write (fold write h (fed.u8 3)) (fed.slice fed.u8 f)) r q e) (bytes_eq f g) refl m

  all_alike : (ps ts : Trees) (ms : List (Option ℕ)) (held : List Held) (h : FoldHasher) (r : Fed) (q : State) → fed_by_all ps ms held h ≡ Some r → matched_all ps ts (record { marks = ms; held = held }) ≡ Some q
      → (q ≡ record { marks = r.marks; held = held }) × (r.hasher ≡ fold write h (fed_trees ts))
  all_alike none none ms held h r q e m =
      let got : r ≡ record { hasher = h; marks = ms } = cc in
      let left : q ≡ record { marks = ms; held = held } = cc in
      (left ∙ ap (λ (z : Fed). record { marks = z.marks; held = held }) (sym got), ap (λ (z : Fed). z.hasher) got)
  all_alike none (more t ts) ms held h r q e m = absurd (cc)
  all_alike (more p ps) none ms held h r q e m = absurd (cc)
  all_alike (more p ps) (more t ts) ms held h r q e m = more_alike p ps t ts ms held h r q (fed_alike p t ms held h) (λ ms h. all_alike ps ts ms held h r q) (fed_by p ms held h) refl e (matched p t (record { marks = ms; held = held })) refl m

-- the next occurrence
pub slot_got : (marks : List (Option ℕ)) (at : ℕ) (v : Var) (held : List Held) (h g : FoldHasher) (u : Tree) → Some u ≡ next_term (drop at marks) held → at < length marks → g ≡ fold write h (fed_tree u)
    → fed_by (variable v) (drop at marks) held h ≡ Some (record { hasher = g; marks = drop (at + 1) marks })
slot_got marks at v held h g u e l f =
    ap (λ o. onward o (λ u. Some (record { hasher = fold write h (fed_tree u); marks = behind (drop at marks) }))) (sym e) ∙ (λ i. Some (record { hasher = sym f i; marks = behind_drop marks at l i }))

-- one more of a list
pub each_more : (ps : List Tree) (k : ℕ) (p : Tree) (ms next : List (Option ℕ)) (held : List Held) (h g : FoldHasher) → slice_get ps k ≡ Some p → fed_by p ms held h ≡ Some (record { hasher = g; marks = next })
    → fed_by_all (trees_of (drop k ps)) ms held h ≡ fed_by_all (trees_of (drop (k + 1) ps)) next held g
each_more ps k p ms next held h g e d =
    ap (λ z. fed_by_all (trees_of z) ms held h) (drop_got ps k p e) ∙ ap (λ o. onward o (λ r. fed_by_all (trees_of (drop (k + 1) ps)) r.marks held r.hasher)) d

pub each_end : (ps : List Tree) (k : ℕ) (ms : List (Option ℕ)) (held : List Held) (h : FoldHasher) → length ps ≤ k → fed_by_all (trees_of (drop k ps)) ms held h ≡ Some (record { hasher = h; marks = ms })
each_end ps k ms held h l = ap (λ z. fed_by_all (trees_of z) ms held h) (drop_of_length-le ps l)

pub ruleset feed_laws = (each_more, each_end)

-- the digest of a fact, step by step
pub digest_fed : (x : Fact) (h g : FoldHasher) → h ≡ fed_name x.name → g ≡ fold write h (fed_trees (trees_of x.args)) → finish g ≡ fact_digest x
unfolding fact_digest
digest_fed x h g e d = ap finish (d ∙ ap (λ z. fold write z (fed_trees (trees_of x.args))) e)

same_number : (k : ℕ) → nat_eq k k ≡ true
same_number k = grind (arith, nat_tests)

drop_none : {X : Type 0} (xs : List X) → drop 0 xs ≡ xs
drop_none [] = refl
drop_none (x ∷ xs) = refl

-- the digest of what fits an atom
pub digest_found : (n : List ℕ) (a : Atom) (held : List Held) (h g : FoldHasher) (ms : List (Option ℕ)) → h ≡ fed_name n → fed_by_all a.args (drop 0 a.marks) held h ≡ Some (record { hasher = g; marks = ms }) → IsDigestOf (finish g) n a held
digest_found n a held h g ms e d x f = by (bytes_eq n x.name) refl (matched_all a.args (trees_of x.args) (record { marks = a.marks; held = held })) refl f where
  whole : fed_by_all a.args a.marks held h ≡ Some (record { hasher = g; marks = ms })
  whole = ap (λ z. fed_by_all a.args z held h) (sym (drop_none a.marks)) ∙ d

  by : (b : Bool) → bytes_eq n x.name ≡ b → (o : Option State) → matched_all a.args (trees_of x.args) (record { marks = a.marks; held = held }) ≡ o → (b && is_there o) ≡ true → nat_eq (fact_digest x) (finish g) ≡ true
  by false s o m y = absurd (cc)
  by true s None m y = absurd (cc)
  by true s (Some q) m y =
      let same : n ≡ x.name = (bytes_eq-Decides n x.name).0 s in
      let i = all_alike a.args (trees_of x.args) a.marks held h (record { hasher = g; marks = ms }) q whole m in
      let k : finish g ≡ fact_digest x = digest_fed x h g (e ∙ ap fed_name same) i.1 in
      rw k (same_number (fact_digest x))

-- what has the digest are enough
any_digested : (d : ℕ) (n : List ℕ) (a : Atom) (held : List Held) (xs : List Fact) → IsDigestOf d n a held → list_any (fits_atom n a held) (of_digest d xs) ≡ list_any (fits_atom n a held) xs
any_digested d n a held xs i = any-filter_same (fits_atom n a held) (λ x. nat_eq (fact_digest x) d) true i xs

-- a fact more in the bucket of its digest
pub behind_bucket : {S : Type 0} (old new : IndexMap ℕ (List (Bor Fact)) S) (x : Bor Fact) (d : ℕ) (xs : List (Bor Fact)) → d ≡ fact_digest x.now → bucket old d ≡ map fact_in xs
    → ((e : ℕ) → get nat_eq new e ≡ cond (nat_eq d e) (Some (xs ++ x ∷ [])) (get nat_eq old e)) → PutsFact old new x.now
behind_bucket old new x d xs is at after e = by (nat_eq d e) refl where
  by : (b : Bool) → nat_eq d e ≡ b → bucket new e ≡ bucket old e ++ of_digest e (x.now ∷ [])
  by true h =
      let same : d ≡ e = (Decides-eqb d e).0 h in
      let here : bucket new e ≡ map fact_in xs ++ x.now ∷ [] = ap in_bucket (after e ∙ ap (λ b. cond b (Some (xs ++ x ∷ [])) (get nat_eq old e)) h) ∙ map_push fact_in xs x in
      let there : bucket old e ≡ map fact_in xs = ap (bucket old) (sym same) ∙ at in
      let one : of_digest e (x.now ∷ []) ≡ x.now ∷ [] = ap (λ z. cond (nat_eq z e) (x.now ∷ []) []) (sym is) ∙ ap (λ b. cond b (x.now ∷ []) []) h in
      here ∙ (λ i. sym there i ++ sym one i)
  by false h =
      let here : bucket new e ≡ bucket old e = ap in_bucket (after e ∙ ap (λ b. cond b (Some (xs ++ x ∷ [])) (get nat_eq old e)) h) in
      let none : of_digest e (x.now ∷ []) ≡ [] = ap (λ z. cond (nat_eq z e) (x.now ∷ []) []) (sym is) ∙ ap (λ b. cond b (x.now ∷ []) []) h in
      here ∙ sym (append-nil (bucket old e)) ∙ ap (λ z. bucket old e ++ z) (sym none)

-- one fact more of a list
pub fact_put : {S : Type 0} (xs : List Fact) (k : ℕ) (x : Fact) (old new : IndexMap ℕ (List (Bor Fact)) S) → slice_get xs k ≡ Some x → ((d : ℕ) → of_digest d xs ≡ bucket old d ++ of_digest d (drop k xs)) → PutsFact old new x
    → (d : ℕ) → of_digest d xs ≡ bucket new d ++ of_digest d (drop (k + 1) xs)
fact_put xs k x old new h i p d =
    let rest = of_digest d (drop (k + 1) xs) in
    i d ∙ ap (λ z. bucket old d ++ of_digest d z) (drop_got xs k x h) ∙ ap (λ z. bucket old d ++ z) (front (nat_eq (fact_digest x) d)) ∙ sym (append_assoc (bucket old d) (of_digest d (x ∷ [])) rest) ∙ ap (λ z. z ++ rest) (sym (p d)) where
      front : (b : Bool) → cond b (x ∷ of_digest d (drop (k + 1) xs)) (of_digest d (drop (k + 1) xs)) ≡ cond b (x ∷ []) [] ++ of_digest d (drop (k + 1) xs)
      front true = refl
      front false = refl

-- all of it
pub facts_put : {S : Type 0} (xs : List Fact) (k : ℕ) (buckets : IndexMap ℕ (List (Bor Fact)) S) → length xs ≤ k → ((d : ℕ) → of_digest d xs ≡ bucket buckets d ++ of_digest d (drop k xs)) → AreBuckets xs buckets
facts_put xs k buckets h i d = sym (i d ∙ ap (λ z. bucket buckets d ++ of_digest d z) (drop_of_length-le xs h) ∙ append-nil (bucket buckets d))

-- one time more
pub taken_more : {X : Type 0} (xs front : List X) (k : ℕ) (x : X) → slice_get xs k ≡ Some x → front ≡ take k xs → front ++ x ∷ [] ≡ take (k + 1) xs
taken_more xs front k x h e = ap (λ z. z ++ x ∷ []) e ∙ sym (take_got xs k x h)

pub ruleset bucket_laws = (fact_put, facts_put)

pub ruleset moment_laws = (taken_more)

-- the bucket of an atom's digest is enough
pub any_in_bucket : {S : Type 0} (buckets : IndexMap ℕ (List (Bor Fact)) S) (d : ℕ) (n : List ℕ) (a : Atom) (held : List Held) (xs ys : List Fact) → AreBuckets xs buckets → IsDigestOf d n a held → ys ≡ bucket buckets d
    → list_any (fits_atom n a held) ys ≡ list_any (fits_atom n a held) xs
any_in_bucket buckets d n a held xs ys b i e = ap (list_any (fits_atom n a held)) (e ∙ b d) ∙ any_digested d n a held xs i
