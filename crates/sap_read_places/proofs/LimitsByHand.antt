-- What is told of a file with too many levels, by hand.
use Rattle.std.proofs.Common.{◌≡◌, ℕ, ◌+◌, suc, zero, List, [], ◌∷◌, ◌++◌, Option, Some, length, map, refl, ap, arith}
use Rattle.std.proofs.lemmas.List.{length-append}
use Rattle.std.specs.Prelude.{slice_get}
use Rattle.sap_process.specs.Places.{places_from}
use Rattle.sap_process.specs.Proc.{Proc, nil, replicated}
use Rattle.sap_process.specs.Sites.{Above, Site, scope_below}
use Rattle.sap_beyond.specs.Numbered.{IsFirstDeep}
use Rattle.sap_macro.specs.Located.{Located, nil_at, without_numbers}
use Rattle.sap_origin.specs.Definitions.{LocatedDefinition, plain_definition}
use Rattle.sap_origin.specs.Reached.{IsForm, Reaches, Standing, reaches_copy, reaches_here, reaches_use}
use Rattle.sap_read_places.specs.LimitExamples.{copies, copies_of, of_copies}

-- so many digits 1
abbrev pub ones : ℕ → List ℕ
ones zero = []
ones (suc n) = 1 ∷ ones n

abbrev copied : ℕ → Proc
copied zero = nil
copied (suc n) = replicated (copied n)

some_path : {v w : List ℕ} → ◌≡◌ {A = Option (List ℕ)} (Some v) (Some w) → v ≡ w
some_path e = cc (e)

-- place number k of copies has k digits
digits : (n : ℕ) (u : Above) (path : List ℕ) (k : ℕ) (v : List ℕ) → slice_get (map (λ (s : Site). s.path) (places_from scope_below path u (copied n))) k ≡ Some v → length v ≡ length path + k
digits zero u path zero v e =
    let same = ap length (some_path e) in omega (arith, same)
digits zero u path (suc k) v e = absurd (cc (e))
digits (suc n) u path zero v e =
    let same = ap length (some_path e) in omega (arith, same)
digits (suc n) u path (suc k) v e =
    let below = digits n u (path ++ 1 ∷ []) k v e in
    let more = length-append path (1 ∷ []) in omega (arith, below, more)

-- ---- where the path leads

-- so many more
abbrev above : ℕ → ℕ → ℕ
above zero m = m
above (suc n) m = suc (above n m)

down : (ds : List LocatedDefinition) (s : Standing) (m n : ℕ) → IsForm (copies m (nil_at 1)) → Reaches ds s (copies (above n m) (nil_at 1)) (ones n) s (copies m (nil_at 1))
down ds s m zero f = reaches_here f
down ds s m (suc n) f = reaches_copy (down ds s m n f)

through : (ds : List LocatedDefinition) (s z : Standing) (p q : Located) (path : List ℕ) (n : ℕ) → Reaches ds s p path z q → Reaches ds s (copies n p) (ones n ++ path) z q
through ds s z p q path zero r = r
through ds s z p q path (suc n) r = reaches_copy (through ds s z p q path n r)

pub level_301 : IsFirstDeep (map plain_definition (of_copies 150)) (without_numbers (copies_of 150).process) 300 (ones 300)
level_301 =
    record {
      number = 300;
      stands = λ identifiers. refl;
      deep = refl;
      first = λ k other less e same.
          let long = digits 350 (record { scope = []; locks = 0 }) [] k other (e []) in omega (arith, less, long, same);
    }

abbrev pub inside : Standing
inside = record { behind = 154; uses = 2 ∷ [] }

pub reached : Reaches (of_copies 150) (record { behind = 1; uses = [] }) (copies_of 150).process (ones 300) inside (copies 50 (nil_at 1))
reached = through (of_copies 150) (record { behind = 1; uses = [] }) inside _ _ (ones 150) 150 (reaches_use refl tt (down (of_copies 150) inside 50 150 tt))
