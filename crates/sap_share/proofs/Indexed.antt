-- What an index of bound variables tells.
use Rattle.std.proofs.Common.{◌≡◌, ◌+◌, ◌-◌, ◌≤◌, ℕ, List, [], ◌∷◌, ◌++◌, length, take, drop, map, Option, Some, None, Bool, true, false, cond, ◌||◌, refl, sym, ap, subst, ◌∙◌, arith, length-append}
use Rattle.std.specs.Prelude.{if◌then◌else◌, is_some, slice_get}
use Rattle.std.specs.Str.{bytes_eq}
use Rattle.std.proofs.lemmas.List.{take-append-drop, take-append-le, length-drop}
use Rattle.std.proofs.lemmas.Slice.Eq.{bytes_eq-Decides}
use Rattle.sap_terms.proofs.PlainLaws.Lists.{take_got, front_self}
use Rattle.sap_terms.specs.NameMap.{Puts, value_at}
use Rattle.sap_terms.specs.Variables.{is_known}
use Rattle.sap_share.specs.code.Found.{number_of_name, Tells, IsIndexOf}
use Rattle.sap_share.specs.declared.env.Bound.{Bound}
use Rattle.sap_share.specs.declared.index.Index.{Index}

-- the first that there is
abbrev pub first : Option ℕ → Option ℕ → Option ℕ
first None p = p
first (Some k) p = Some k

first_none : (o : Option ℕ) → first o None ≡ o
first_none None = refl
first_none (Some k) = refl

-- a look-up among these and then those
pub found_in : (es ds : List Bound) (n : List ℕ) → number_of_name (es ++ ds) n ≡ first (number_of_name es n) (number_of_name ds n)
found_in [] ds n = refl
found_in (e ∷ es) ds n = by (bytes_eq e.var.name n) (found_in es ds n) where
  by : (b : Bool) → number_of_name (es ++ ds) n ≡ first (number_of_name es n) (number_of_name ds n) → (if b then Some e.id else number_of_name (es ++ ds) n) ≡ first (if b then Some e.id else number_of_name es n) (number_of_name ds n)
  by true rest = refl
  by false rest = rest

-- a name is bound where a look-up finds a number
pub bound_known : (es : List Bound) (n : List ℕ) → is_some (number_of_name es n) ≡ is_known (map (λ (b : Bound). b.var.name) es) n
bound_known [] n = refl
bound_known (e ∷ es) n = by (bytes_eq e.var.name n) (bound_known es n) where
  by : (t : Bool) → is_some (number_of_name es n) ≡ is_known (map (λ (b : Bound). b.var.name) es) n → is_some (if t then Some e.id else number_of_name es n) ≡ (t || is_known (map (λ (b : Bound). b.var.name) es) n)
  by true rest = refl
  by false rest = rest

abbrev Map : Type 0
Map = List (List ℕ × ℕ)

abbrev told : Map → List ℕ → Option ℕ
told m n = value_at m n

-- the number of a name that wasn't told of is told then
pub told_new : (m w : Map) (b : Bound) (es : List Bound) → Puts m w b.var.name (Some b.id) → is_some (told m b.var.name) ≡ false → Tells m es → Tells w (es ++ b ∷ [])
told_new m w b es u new t n =
    u n ∙ by (bytes_eq b.var.name n) refl ∙ sym (found_in es (b ∷ []) n)
  where
    none : (o : Option ℕ) → is_some o ≡ false → Some b.id ≡ first o (Some b.id)
    none None h = refl
    none (Some k) h = cc

    by : (x : Bool) → bytes_eq b.var.name n ≡ x → cond x (Some b.id) (told m n) ≡ first (number_of_name es n) (if x then Some b.id else None)
    by true h = none (number_of_name es n) (ap is_some (sym (t n)) ∙ ap (λ q. is_some (told m q)) (sym ((bytes_eq-Decides b.var.name n).0 h)) ∙ new)
    by false h = t n ∙ sym (first_none (number_of_name es n))

-- a later number of a name that is told of says nothing
pub told_old : (m : Map) (b : Bound) (es : List Bound) → is_some (told m b.var.name) ≡ true → Tells m es → Tells m (es ++ b ∷ [])
told_old m b es old t n = t n ∙ by (bytes_eq b.var.name n) refl ∙ sym (found_in es (b ∷ []) n) where
  some : (o : Option ℕ) → is_some o ≡ true → o ≡ first o (Some b.id)
  some None h = cc
  some (Some k) h = refl

  by : (x : Bool) → bytes_eq b.var.name n ≡ x → number_of_name es n ≡ first (number_of_name es n) (if x then Some b.id else None)
  by true h = some (number_of_name es n) (ap is_some (sym (t n)) ∙ ap (λ q. is_some (told m q)) (sym ((bytes_eq-Decides b.var.name n).0 h)) ∙ old)
  by false h = sym (first_none (number_of_name es n))

-- what an index and the rest tell
pub found_parts : (x : Index) (es : List Bound) → IsIndexOf x es → (n : List ℕ) → number_of_name es n ≡ first (told x.numbers n) (number_of_name (drop x.count es) n)
found_parts x es i n =
    ap (λ ds. number_of_name ds n) (sym (take-append-drop x.count es)) ∙ found_in (take x.count es) (drop x.count es) n ∙ ap (λ o. first o (number_of_name (drop x.count es) n)) (sym (i.tells n))

-- what isn't indexed, as far as it goes
pub rest_is : (k : ℕ) (es : List Bound) → take (length es - k) (drop k es) ≡ drop k es
rest_is k es = ap (λ n. take n (drop k es)) (sym (length-drop k es)) ∙ front_self (drop k es)

-- an index stays one of what is longer
pub index_longer : (x : Index) (es ds : List Bound) → IsIndexOf x es → IsIndexOf x (es ++ ds)
index_longer x es ds i = record {
  within = omega (arith, i.within, length-append es ds);
  tells = subst (Tells x.numbers) (sym (take-append-le x.count es ds i.within)) i.tells;
}

-- one more is indexed
pub index_more : (x w : Index) (es : List Bound) (b : Bound) → slice_get es x.count ≡ Some b → x.count + 1 ≤ length es → Tells w.numbers (take x.count es ++ b ∷ []) → w.count ≡ x.count + 1 → IsIndexOf w es
index_more x w es b got within t one = record {
  within = omega (arith, within, one);
  tells = subst (Tells w.numbers) (sym (take_got es x.count b got) ∙ ap (λ k. take k es) (sym one)) t;
}
