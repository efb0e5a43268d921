-- The lines of a derivation are possible, so that want of memory alone refuses one.
use Rattle.std.proofs.Common.{◌≡◌, ◌<◌, ◌≤◌, ℕ, zero, suc, Bool, true, false, List, [], ◌∷◌, ◌++◌, length, map, find, nat_le, Some, None, slice_get, take, arith, rules, refl, sym, ap, subst, ◌∙◌, ◌⊎◌, inl, inr}
use Rattle.std.proofs.lemmas.Option.{slice_get_within}
use Rattle.sap_terms.specs.Equations.{equations}
use Rattle.sap_terms.specs.Normal.{IsNormalForm}
use Rattle.sap_terms.specs.Signature.{Sig, IsPublic, arity_of}
use Rattle.sap_terms.specs.Tree.{Tree, apply, trees_of, node_count}
use Rattle.sap_terms.specs.declared.limits.TheConstants.{MOST_TERM_NODES}
use Rattle.sap_rewrite.specs.Laws.{FormIsOne}
use Rattle.sap_derive.specs.Lines.{Give, no_lines, one_more, IsLine, writes, applies}
use Rattle.sap_derive.specs.declared.line.Line.{Line}
use Rattle.sap_process.specs.Configuration.{Config}
use Rattle.sap_runs.specs.declared.process_step.PStep.TheVariants as line
use Rattle.sap_lines.specs.Faults.{IsRefused}
use Rattle.sap_lines.specs.declared.fault.PFault.{PFault}
use Rattle.sap_lines.specs.declared.fault.PFault.TheVariants as fault
use Rattle.sap_intruder.specs.code.Filled.{AreCarriedOut, IsPossible, AreLeading, entries_of}
use Rattle.sap_intruder.specs.FilledRuns.{line_step}
use Rattle.sap_intruder.specs.declared.filling.Filling.{Filling}
use Rattle.sap_intruder.proofs.Entering.{some_one}

-- ---- one line

-- where each number is an entry's, none is unknown
known_test : (n k : ℕ) → k < n → nat_le n k ≡ false
known_test n k h = by (nat_le n k) refl where
  by : (t : Bool) → nat_le n k ≡ t → t ≡ false
  by true e = let le : n ≤ k = search (rules, e) in absurd (omega (arith, h, le))
  by false e = refl

none_unknown : (es : List Tree) (ks : List ℕ) (us : List Tree) → map (slice_get es) ks ≡ map Some us → find (nat_le (length es)) ks ≡ None
none_unknown es [] us h = refl
none_unknown es (k ∷ ks) [] h = cc
none_unknown es (k ∷ ks) (u ∷ us) h =
    let head : slice_get es k ≡ Some u = cc in
    let tail : map (slice_get es) ks ≡ map Some us = cc in
    rw (known_test (length es) k (slice_get_within es k u head)) (none_unknown es ks us tail)

public_mem : (g : Sig) (c : Config) (es : List Tree) (a : List ℕ) (e : PFault) → IsRefused g c es (line.Public a) e → e ≡ fault.Mem
public_mem g c es a _ (IsRefused.no_memory _) = refl
public_mem g c es a e (IsRefused.unfit t named h) = absurd (cc)
public_mem g c es a _ (IsRefused.large running has_entry big) = absurd (let named = running.named in cc)

apply_mem : FormIsOne → (g : Sig) (c : Config) (es : List Tree) (f ks : List ℕ) (us : List Tree) (u : Tree) (e : PFault) → IsPublic g f → arity_of g f ≡ Some (length ks)
    → map (slice_get es) ks ≡ map Some us → IsNormalForm (equations g) (apply f (trees_of us)) u → node_count u ≤ MOST_TERM_NODES → IsRefused g c es (line.Apply f ks) e → e ≡ fault.Mem
apply_mem one g c es f ks us u _ free arity at form size (IsRefused.no_memory _) = refl
apply_mem one g c es f ks us u e free arity at form size (IsRefused.unfit t named h) = absurd (cc)
apply_mem one g c es f ks us u _ free arity at form size (IsRefused.large running has_entry big) = absurd (let named = running.named in cc)
apply_mem one g c es f ks us u _ free arity at form size (IsRefused.not_public _ _ never) = absurd (never free)
apply_mem one g c es f ks us u _ free arity at form size (IsRefused.other_arity _ _ too never) = absurd (never arity)
apply_mem one g c es f ks us u _ free arity at form size (IsRefused.unknown_argument _ _ k too same first) =
    absurd (let none = none_unknown es ks us at in cc (none, first))
apply_mem one g c es f ks us u _ free arity at form size (IsRefused.large_application _ _ ts x too same there is big) =
    let args : ts ≡ us = some_one ts us (sym there ∙ at) in
    let same_term : x ≡ u = one (equations g) (apply f (trees_of us)) x u (subst (λ (zs : List Tree). IsNormalForm (equations g) (apply f (trees_of zs)) x) args is) form in
    let less : MOST_TERM_NODES < node_count u = subst (λ (z : Tree). MOST_TERM_NODES < node_count z) same_term big in
    absurd (omega (arith, less, size))

line_mem : FormIsOne → (g : Sig) (c : Config) (es : List Tree) (l : Line) (u : Tree) (e : PFault) → IsLine g es l u → IsRefused g c es (line_step l) e → e ≡ fault.Mem
line_mem one g c es _ _ e (writes a) h = public_mem g c es a e h
line_mem one g c es _ _ e (applies f ks us u free arity at form size) h = apply_mem one g c es f ks us u e free arity at form size h

pub possible_mem : FormIsOne → (g : Sig) (c : Config) (es : List Tree) (l : Line) (e : PFault) → (u : Tree) × IsLine g es l u → IsRefused g c es (line_step l) e → e ≡ fault.Mem
possible_mem one g c es l e is h = line_mem one g c es l is.0 e is.1 h

-- ---- one after the other

pushed_got : {A : Type 0} (xs : List A) (x y : A) (k : ℕ) → slice_get (xs ++ x ∷ []) k ≡ Some y
    → ((slice_get xs k ≡ Some y) × (take k (xs ++ x ∷ []) ≡ take k xs)) ⊎ ((x ≡ y) × (take k (xs ++ x ∷ []) ≡ xs))
pushed_got [] x y zero e = inr (cc (e), refl)
pushed_got [] x y (suc k) e = absurd (cc)
pushed_got (z ∷ xs) x y zero e = inl (e, refl)
pushed_got (z ∷ xs) x y (suc k) e = elim (pushed_got xs x y k e) [
  | inl (a, b) ↦ inl (a, ap (λ zs. z ∷ zs) b)
  | inr (a, b) ↦ inr (a, ap (λ zs. z ∷ zs) b)
]

-- what the lines before this one give, and what it gives behind them
record GivenBefore (g : Sig) (ts : List Tree) (ls : List Line) (k : ℕ) (l : Line) : Type 0 where
  before : List Tree
  give : Give g ts (take k ls) before
  term : Tree
  is : IsLine g (ts ++ before) l term

given_before : (g : Sig) (ts us : List Tree) (ls : List Line) (k : ℕ) (l : Line) → Give g ts ls us → slice_get ls k ≡ Some l → GivenBefore g ts ls k l
given_before g ts _ _ k l no_lines at = absurd (cc)
given_before g ts _ _ k l (one_more ls us m u h s) at = elim (pushed_got ls m l k at) [
  | inl (there, front) ↦ (
      let b = given_before g ts us ls k l h there in
      record { before = b.before; give = subst (λ (xs : List Line). Give g ts xs b.before) (sym front) b.give; term = b.term; is = b.is })
  | inr (same, front) ↦ record {
    before = us;
    give = subst (λ (xs : List Line). Give g ts xs us) (sym front) h;
    term = u;
    is = subst (λ (x : Line). IsLine g (ts ++ us) x u) same s;
  }
]

-- so the next line is possible, where those before it were done
pub next_possible : (a b : Filling) (lines : List Line) (k : ℕ) (l : Line) → AreLeading a lines → slice_get lines k ≡ Some l → AreCarriedOut a b (take k lines) → IsPossible b l
next_possible a b lines k l leads at carried =
    let next = given_before a.config.sig (entries_of a) leads.0 lines k l leads.1 at in
    let out = carried.out next.before next.give in
    let there : IsLine a.config.sig (entries_of b) l next.term = subst (λ (es : List Tree). IsLine a.config.sig es l next.term) (sym out.entries) next.is in
    (next.term, subst (λ (g : Sig). IsLine g (entries_of b) l next.term) (sym out.sig) there)
