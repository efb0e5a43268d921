-- In the signature that declarations make no name stands twice.
use Rattle.std.proofs.Common.{◌≡◌, ℕ, Bool, true, false, List, [], ◌∷◌, ◌++◌, Option, Some, None, refl, sym}
use Rattle.std.specs.Prelude.{is_some, if◌then◌else◌}
use Rattle.std.specs.Str.{bytes_eq}
use Rattle.std.proofs.lemmas.Slice.Eq.{bytes_eq-Decides}
use Rattle.sap_terms.specs.declared.signature.Symbol.{Symbol}
use Rattle.sap_terms.specs.Signature.{Sig, IsMap, find_symbol, builtin_symbols, declared, declared_all, added, first_clash, pairs_alone}
use Rattle.sap_grammar.specs.Declarations.{Declaration, of_builtin, of_symbol}
use Rattle.sap_grammar.specs.Signatures.{with_declaration, signature_from}

-- a symbol that is put last isn't found by another name
not_last : (ss : List Symbol) (s : Symbol) (x : List ℕ) → find_symbol ss x ≡ None → bytes_eq s.name x ≡ false → find_symbol (ss ++ s ∷ []) x ≡ None
not_last [] s x missing other = rw other refl
not_last (u ∷ ss) s x missing other = by (bytes_eq u.name x) missing (λ h. not_last ss s x h other)
  where
    by : (c : Bool) → (if c then Some u else find_symbol ss x) ≡ None → (find_symbol ss x ≡ None → find_symbol (ss ++ s ∷ []) x ≡ None)
        → (if c then Some u else find_symbol (ss ++ s ∷ []) x) ≡ None
    by true h later = absurd (cc (h))
    by false h later = later h

-- names that differ
pub other_name : (x y : List ℕ) → bytes_eq x y ≡ false → bytes_eq y x ≡ false
other_name x y e = by (bytes_eq y x) refl
  where
    by : (c : Bool) → bytes_eq y x ≡ c → bytes_eq y x ≡ false
    by true f = let t : bytes_eq x y ≡ true = (bytes_eq-Decides x y).1 (sym ((bytes_eq-Decides y x).0 f)) in absurd (cc (t, e))
    by false f = f

map_push : (ss : List Symbol) (s : Symbol) → IsMap ss → find_symbol ss s.name ≡ None → IsMap (ss ++ s ∷ [])
map_push [] s m missing = (refl, tt)
map_push (u ∷ ss) s m missing = by (bytes_eq u.name s.name) refl missing (λ h. map_push ss s m.1 h)
  where
    by : (c : Bool) → bytes_eq u.name s.name ≡ c → (if c then Some u else find_symbol ss s.name) ≡ None → (find_symbol ss s.name ≡ None → IsMap (ss ++ s ∷ []))
        → IsMap (u ∷ (ss ++ s ∷ []))
    by true e h later = absurd (cc (h))
    by false e h later = (not_last ss s u.name m.0 (other_name u.name s.name e), later h)

map_declared : (ss : List Symbol) (s : Symbol) → IsMap ss → IsMap (declared ss s.name s.arity s.private)
map_declared ss s m = by (find_symbol ss s.name) refl
  where
    by : (o : Option Symbol) → find_symbol ss s.name ≡ o → IsMap (if is_some o then ss else ss ++ s ∷ [])
    by None e = map_push ss s m e
    by (Some u) e = m

map_all : (xs ss : List Symbol) → IsMap ss → IsMap (declared_all ss xs)
map_all [] ss m = m
map_all (x ∷ xs) ss m = map_all xs (declared ss x.name x.arity x.private) (map_declared ss x m)

map_one : (g : Sig) (d : Declaration) → IsMap g.symbols → IsMap (with_declaration g d).symbols
map_one g (of_symbol s) m = map_declared g.symbols s m
map_one g (of_builtin b) m = by (is_some (first_clash g.symbols (builtin_symbols b)))
  where
    by : (c : Bool) → IsMap (if c then g else added g b).symbols
    by true = m
    by false = map_all (builtin_symbols b) g.symbols m

map_from : (ds : List Declaration) (g : Sig) → IsMap g.symbols → IsMap (signature_from g ds).symbols
map_from [] g m = m
map_from (d ∷ ds) g m = map_from ds (with_declaration g d) (map_one g d m)

pub map_held : (ds : List Declaration) → IsMap (signature_from pairs_alone ds).symbols
map_held ds = map_from ds pairs_alone (refl, (refl, (refl, tt)))
