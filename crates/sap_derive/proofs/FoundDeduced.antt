-- What lines give is deducible.
use Rattle.std.proofs.Common.{◌≡◌, ℕ, suc, List, [], ◌∷◌, ◌++◌, length, map, Some, refl, sym, ap, ◌∙◌, inl, inr, arith, subst}
use Rattle.std.specs.Prelude.{slice_get, Contains, All}
use Rattle.std.proofs.lemmas.List.{append_assoc}
use Rattle.std.proofs.lemmas.List.Elements.{All-nil, All-cons}
use Rattle.sap_terms.proofs.PlainLaws.Items.{contains_got, cons_cases, first_item, later_item}
use Rattle.sap_terms.specs.Deduce.{IsDerived, a_public, given, applied, IsDerivation}
use Rattle.sap_terms.specs.Equal.{same}
use Rattle.sap_terms.specs.Signature.{Sig}
use Rattle.sap_terms.specs.Tree.{Tree}
use Rattle.sap_derive.specs.Found.{FoundGoalsAreDeducible}
use Rattle.sap_derive.specs.Lines.{IsLine, writes, applies, Give, no_lines, one_more}
use Rattle.sap_derive.specs.declared.line.Line.{Line}
use Rattle.sap_derive.proofs.Gets.{append-none, get-last_cases}

module _ (g : Sig) (ts : List Tree) where
  -- a derivation that has these terms
  record Earlier (us : List Tree) : Type 0 where
    terms : List Tree
    derivation : IsDerivation g [] ts terms
    has : (k : ℕ) (t : Tree) → slice_get us k ≡ Some t → Contains terms t

  -- the terms of the frame are one
  all-given : (us : List Tree) → ((t : Tree) → Contains us t → Contains ts t) → IsDerivation g [] ts us
  all-given [] h = tt
  all-given (u ∷ us) h = (given (h u (first_item u us)), all-given us (λ t m. h t (later_item u us t m)))

  -- the terms at the numbers, and how many they are
  at-numbers : (xs earlier : List Tree) → ((k : ℕ) (t : Tree) → slice_get xs k ≡ Some t → Contains earlier t) → (ks : List ℕ) (us : List Tree)
      → map (slice_get xs) ks ≡ map Some us → All (Contains earlier) us × (length ks ≡ length us)
  at-numbers xs earlier has [] [] e = (All-nil (Contains earlier), refl)
  at-numbers xs earlier has [] (u ∷ us) e = absurd (cc)
  at-numbers xs earlier has (k ∷ ks) [] e = absurd (cc)
  at-numbers xs earlier has (k ∷ ks) (u ∷ us) e =
      let head : slice_get xs k ≡ Some u = cc in
      let tail : map (slice_get xs) ks ≡ map Some us = cc in
      let rest = at-numbers xs earlier has ks us tail in
      (All-cons (Contains earlier) u us (has k u head) rest.0, ap suc rest.1)

  line-derived : (xs earlier : List Tree) → ((k : ℕ) (t : Tree) → slice_get xs k ≡ Some t → Contains earlier t) → (l : Line) (u : Tree) → IsLine g xs l u → IsDerived g [] ts earlier u
  line-derived xs earlier has _ _ (writes a) = a_public a refl
  line-derived xs earlier has _ _ (applies f ks us u p n m form w) =
      let at = at-numbers xs earlier has ks us m in
      applied f us p (n ∙ ap (λ (i : ℕ). Some i) at.1) at.0 form

  -- what lines give, and the terms before them, are one
  given-derived : (ls : List Line) (us : List Tree) → Give g ts ls us → Earlier (ts ++ us)
  given-derived _ _ no_lines = record {
    terms = ts;
    derivation = all-given ts (λ t m. m);
    has = λ k t e. contains_got ts t k (subst (λ (xs : List Tree). slice_get xs k ≡ Some t) (sym (append-none ts)) e);
  }
  given-derived _ _ (one_more ls us l u h s) =
      let before = given-derived ls us h in
      record {
        terms = u ∷ before.terms;
        derivation = (line-derived (ts ++ us) before.terms before.has l u s, before.derivation);
        has = λ k t e.
            elim (get-last_cases (ts ++ us) u k t (subst (λ (xs : List Tree). slice_get xs k ≡ Some t) (sym (append_assoc ts us (u ∷ []))) e)) [
              | inl x ↦ later_item u before.terms t (before.has k t x)
              | inr x ↦ subst (Contains (u ∷ before.terms)) (sym x.1) (first_item u before.terms)
            ];
      }

  -- each term of a derivation is the last of one
  last-of : (us : List Tree) (t : Tree) → IsDerivation g [] ts us → Contains us t → (earlier : List Tree) × IsDerivation g [] ts (t ∷ earlier)
  last-of [] t d m = absurd (omega (arith, m.1))
  last-of (u ∷ us) t d m = elim (cons_cases u us t m) [
    | inl is ↦ (us, subst (λ (x : Tree). IsDerivation g [] ts (x ∷ us)) is d)
    | inr more ↦ last-of us t d.1 more
  ]

pub found-deducible : FoundGoalsAreDeducible
found-deducible g entries goal d normal (gained, found) =
    let all = given-derived g entries d.lines gained found.lines in
    let last = last-of g entries all.terms goal all.derivation (all.has d.entry goal found.goal_is) in
    record { form = goal; is_form = record { equal = same; normal = normal }; earlier = last.0; derivation = last.1 }
