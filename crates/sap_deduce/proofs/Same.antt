-- The names and the outputs given give the same as the terms of all entries.
use Rattle.std.proofs.Common.{◌≡◌, ℕ, List, [], ◌∷◌, ◌++◌, ap, subst, ◌∙◌, ◌⊎◌, inl, inr, arith}
use Rattle.std.specs.Prelude.{Contains, slice_index_or}
use Rattle.std.proofs.lemmas.List.Elements.{Contains-push, Contains-push_cases, Contains-append_left, Contains-append_right, Contains-append_cases, Contains-get_or, filter_map-append}
use Rattle.sap_terms.specs.Tree.{Tree, fresh}
use Rattle.sap_terms.specs.Signature.{Sig}
use Rattle.sap_terms.specs.Laws.{LeavesAreNormal}
use Rattle.sap_rewrite.specs.Laws.{FormIsOne}
use Rattle.sap_deduce.specs.declared.origin.Origin.{Origin}
use Rattle.sap_deduce.specs.declared.origin.Origin.TheVariants.{Name, Public, Output, Apply}
use Rattle.sap_deduce.specs.Entries.{Entry, terms_of, name_of, names_given, outputs_given, Adds, AreEntered, none_yet, one_more}
use Rattle.sap_deduce.specs.Deducing.{EntriesGiveTheSame}
use Rattle.sap_deduce.proofs.Derivations.{terms_of-push, outputs_given-push, entered-normal, entered-deducible}
use Rattle.sap_deduce.proofs.Transitive.{deduced_is_deducible, deducible_from_all}

-- what a list of one has is that one
the_only : {X : Type 0} (x y : X) → Contains (x ∷ []) y → x ≡ y
the_only {X = X} x y c = at (Contains-push_cases [] x y c) where
  at : Contains {X = X} [] y ⊎ (x ≡ y) → x ≡ y
  at (inl none) = absurd (omega (arith, none.1))
  at (inr is) = is

-- the name of the last entry, if it is one
last_name : (g : Sig) (es : List Entry) (t : Tree) (origin : Origin) (n : ℕ) → Adds g es origin t → Contains (names_given (record { term = t; origin = origin } ∷ [])) n
    → t ≡ fresh n
last_name g es t (Name m) n a c = a ∙ ap fresh (the_only m n c)
last_name g es t Public n a c = absurd (omega (arith, c.1))
last_name g es t Output n a c = absurd (omega (arith, c.1))
last_name g es t (Apply f ks) n a c = absurd (omega (arith, c.1))

-- each name that was given is an entry
has_names : (g : Sig) (es : List Entry) → AreEntered g es → (n : ℕ) → Contains (names_given es) n → Contains (terms_of es) (fresh n)
has_names g _ none_yet n c = absurd (omega (arith, c.1))
has_names g _ (one_more es t origin h a) n c =
    rw (terms_of-push es e) (at (has_names g es h n) (Contains-append_cases (names_given es) (names_given (e ∷ [])) n (subst (λ (ns : List ℕ). Contains ns n) (filter_map-append (λ (x : Entry). name_of x.origin) es (e ∷ [])) c)))
  where
    e : Entry
    e = record { term = t; origin = origin }

    at : (Contains (names_given es) n → Contains (terms_of es) (fresh n)) → Contains (names_given es) n ⊎ Contains (names_given (e ∷ [])) n
        → Contains (terms_of es ++ t ∷ []) (fresh n)
    at had (inl before) = Contains-append_left (terms_of es) (t ∷ []) (fresh n) (had before)
    at had (inr here) = subst (Contains (terms_of es ++ t ∷ [])) (last_name g es t origin n a here) (Contains-push (terms_of es) t)

-- the output that the last entry is, if it is one
last_output : (t u : Tree) (origin : Origin) → Contains (outputs_given (record { term = t; origin = origin } ∷ [])) u → Contains (t ∷ []) u
last_output t u (Name n) c = absurd (omega (arith, c.1))
last_output t u Public c = absurd (omega (arith, c.1))
last_output t u Output c = c
last_output t u (Apply f ks) c = absurd (omega (arith, c.1))

-- so is each output
has_outputs : (g : Sig) (es : List Entry) → AreEntered g es → (u : Tree) → Contains (outputs_given es) u → Contains (terms_of es) u
has_outputs g _ none_yet u c = c
has_outputs g _ (one_more es t origin h a) u c =
    rw (terms_of-push es e) (at (has_outputs g es h u) (Contains-append_cases (outputs_given es) (outputs_given (e ∷ [])) u (subst (λ (us : List Tree). Contains us u) (outputs_given-push es e) c)))
  where
    e : Entry
    e = record { term = t; origin = origin }

    at : (Contains (outputs_given es) u → Contains (terms_of es) u) → Contains (outputs_given es) u ⊎ Contains (outputs_given (e ∷ [])) u
        → Contains (terms_of es ++ t ∷ []) u
    at had (inl before) = Contains-append_left (terms_of es) (t ∷ []) u (had before)
    at had (inr here) = Contains-append_right (terms_of es) (t ∷ []) u (last_output t u origin here)

pub entries_give_the_same : LeavesAreNormal → FormIsOne → EntriesGiveTheSame
entries_give_the_same leaves one g es t h = (
  λ d. deducible_from_all g (names_given es) (outputs_given es) (terms_of es) t
      (record { has_names = has_names g es h; has_frame = λ k d below. has_outputs g es h (slice_index_or (outputs_given es) k d) (Contains-get_or (outputs_given es) k d below) }) d,
  λ d. deduced_is_deducible one g (names_given es) (outputs_given es) (terms_of es) t (entered-normal leaves g es h)
      (entered-deducible leaves (record { sig = g; entries = es; numbers = [] }) h) d,
)
