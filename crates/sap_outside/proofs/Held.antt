-- What a map of files gives at a name.
use Rattle.std.proofs.Common.{◌≡◌, ℕ, List, [], ◌∷◌, Bool, true, false, cond, Option, Some, refl, ap, ◌∙◌, Vec, String, string_bytes, map as map_list}
use Rattle.std.specs.declared.alloc.Global.{Global}
use Rattle.std.specs.FinMap as map
use Rattle.std.specs.FinMap.{find}
use Rattle.std.specs.Map.{lookup}
use Rattle.std.specs.Option.{option_map}
use Rattle.std.specs.Ordering.{nat_cmp, eq_by_cmp, is_eq}
use Rattle.std.specs.Cmp.Lexicographic.{slice_cmp, nat_list_cmp_total}
use Rattle.std.specs.BTreeMap.{BTreeMap, get_by_text}
use Rattle.sap_outside.specs.Outside.{files_of}

abbrev Entry : Type 0
Entry = String Global × Vec ℕ Global

abbrev seen : Entry → List ℕ × List ℕ
seen e = (string_bytes e.0, e.1.items)

seen_cond : (b : Bool) (v : Vec ℕ Global) (o : Option (Vec ℕ Global)) → cond b (Some v.items) (option_map (λ w. w.items) o) ≡ option_map (λ w. w.items) (cond b (Some v) o)
seen_cond true v o = refl
seen_cond false v o = refl

find_seen : (q : List ℕ) (es : List Entry) → find (slice_cmp nat_cmp) q (map_list seen es) ≡ option_map (λ v. v.items) (lookup (λ k. is_eq (slice_cmp nat_cmp q (string_bytes k))) es)
find_seen q [] = refl
find_seen q (e ∷ es) = ap (λ o. cond (eq_by_cmp (slice_cmp nat_cmp) q (string_bytes e.0)) (Some e.1.items) o) (find_seen q es) ∙ seen_cond (is_eq (slice_cmp nat_cmp q (string_bytes e.0))) e.1 (lookup (λ k. is_eq (slice_cmp nat_cmp q (string_bytes k))) es)

pub held : (m : BTreeMap (String Global) (Vec ℕ Global)) (q : List ℕ) → map.get (files_of m) q ≡ option_map (λ v. v.items) (get_by_text m q)
held m q = map.get-from_entries nat_list_cmp_total (map_list seen m.entries) q ∙ find_seen q m.entries
