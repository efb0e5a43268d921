-- What holds of each cause that is found before uses are looked at holds of the first that counts.
use Rattle.std.proofs.Common.{◌≡◌, ℕ, Bool, true, false, List, [], ◌∷◌, Option, Some, None, refl, subst}
use Rattle.std.specs.Prelude.{if◌then◌else◌, map, option_map, slice_get, ⊤}
use Rattle.sap_terms.specs.Signature.{pairs_alone}
use Rattle.sap_grammar.specs.Signatures.{clash_from}
use Rattle.sap_restrict.specs.Restrictions.{is_generated}
use Rattle.sap_read.specs.Causes.{cause_of, causes, first_of, first_repeated, first_taken, labels, unknown_from, unlabelled}
use Rattle.sap_read.specs.Item.{Body, Standing, bodies, declarations, statements}
use Rattle.sap_read.specs.declared.fault.ReadFault.{ReadFault}
use Rattle.sap_read.specs.declared.fault.ReadFault.TheVariants.{NoProcess, TwoProcesses, UnknownProcess, DuplicateName, FunctionClash}
use Rattle.sap_statements.specs.Statements.{name_of}
use Rattle.sap_statements.specs.declared.statement.Statement.{Statement}

module _ (P : ReadFault → Type 0) where
  abbrev OfOne : Option ReadFault → Type 0
  OfOne None = ⊤
  OfOne (Some e) = P e

  abbrev OfEach : List (Option ReadFault) → Type 0
  OfEach [] = ⊤
  OfEach (o ∷ os) = OfOne o × OfEach os

  of_first : (os : List (Option ReadFault)) → OfEach os → OfOne (first_of os)
  of_first [] h = tt
  of_first (None ∷ os) h = of_first os h.1
  of_first (Some e ∷ os) h = h.0

  of_if : (b : Bool) (e : ReadFault) → P e → OfOne (if b then Some e else None)
  of_if true e h = h
  of_if false e h = tt

  of_map : {A : Type 0} (f : A → ReadFault) (o : Option A) → ((x : A) → o ≡ Some x → P (f x)) → OfOne (option_map f o)
  of_map f None h = tt
  of_map f (Some x) h = h x refl

  of_causes : (bs : List Body) (ss : List Statement) (o : Option (List ℕ)) → P NoProcess → ((b : Body) → slice_get (unlabelled bs) 1 ≡ Some b → P (TwoProcesses b.line))
      → ((x : List ℕ) → unknown_from [] bs ≡ Some x → P (UnknownProcess x)) → ((x : List ℕ) → first_repeated (labels bs) ≡ Some x → P (DuplicateName x))
      → ((x : List ℕ) → first_taken is_generated (map name_of ss) ≡ Some x → P (DuplicateName x)) → ((x : List ℕ) → o ≡ Some x → P (FunctionClash x)) → OfEach (causes bs ss o)
  of_causes bs ss o none two unknown name taken clash = (
    of_if _ NoProcess none,
    (
      of_map (λ (b : Body). TwoProcesses b.line) _ two,
      (of_map UnknownProcess _ unknown, (of_map DuplicateName _ name, (of_map DuplicateName _ taken, (of_map FunctionClash o clash, tt)))),
    ),
  )

  -- it holds of the first cause, where it holds of each for what that says
  pub because : (is : List Standing) (e : ReadFault) → P NoProcess → ((b : Body) → slice_get (unlabelled (bodies is)) 1 ≡ Some b → P (TwoProcesses b.line))
      → ((x : List ℕ) → unknown_from [] (bodies is) ≡ Some x → P (UnknownProcess x)) → ((x : List ℕ) → first_repeated (labels (bodies is)) ≡ Some x → P (DuplicateName x))
      → ((x : List ℕ) → first_taken is_generated (map name_of (statements is)) ≡ Some x → P (DuplicateName x))
      → ((x : List ℕ) → clash_from pairs_alone (declarations is) ≡ Some x → P (FunctionClash x)) → cause_of is ≡ Some e → P e
  because is e none two unknown name taken clash c =
      let o = clash_from pairs_alone (declarations is) in
      subst OfOne c (of_first (causes (bodies is) (statements is) o) (of_causes (bodies is) (statements is) o none two unknown name taken clash))
