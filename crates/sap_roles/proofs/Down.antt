-- Roles on the way down, node by node, are the roles on the way.
use Rattle.std.proofs.Common.{◌≡◌, inl, inr, ℕ, zero, suc, Bool, true, false, List, [], ◌∷◌, ◌++◌, Option, Some, None, refl, sym, ap, ◌∙◌, subst, arith}
use Rattle.std.specs.Prelude.{All, if◌then◌else◌}
use Rattle.std.proofs.lemmas.List.{append_assoc}
use Rattle.std.proofs.lemmas.List.Elements.{All-nil, All-push}
use Rattle.sap_macro.specs.Located.{Located}
use Rattle.sap_origin.specs.Definitions.{LocatedDefinition}
use Rattle.sap_origin.specs.Reached.{Reaches, Standing, reaches_here, reaches_use, reaches_left, reaches_right, reaches_copy, reaches_behind, reaches_then, reaches_else, reaches_found, reaches_missing}
use Rattle.std.specs.Option.{option_or}
use Rattle.sap_roles.specs.Roles.{given, first_given, BeginsNone, BeginsThreads, EndsWhereThreadsBegin, IsRoleOn}
use Rattle.sap_roles.specs.PlacesAlong.{PlaceAt, places_along, begins_threads}
use Rattle.sap_roles.specs.code.Going.{role_below, role_down}

or_or : (a b c : Option (List ℕ)) → option_or (option_or a b) c ≡ option_or a (option_or b c)
or_or None b c = refl
or_or (Some f) b c = refl

or_none : (a : Option (List ℕ)) → a ≡ option_or a None
or_none None = refl
or_none (Some f) = refl

first_more : (ns ms : List PlaceAt) → first_given (ns ++ ms) ≡ option_or (first_given ns) (first_given ms)
first_more [] ms = refl
first_more (n ∷ ns) ms = ap (option_or (given n)) (first_more ns ms) ∙ sym (or_or (given n) (first_given ns) (first_given ms))

first_push : (ns : List PlaceAt) (n : PlaceAt) → option_or (first_given ns) (given n) ≡ first_given (ns ++ n ∷ [])
first_push ns n = ap (option_or (first_given ns)) (or_none (given n)) ∙ sym (first_more ns (n ∷ []))

-- ---- the role down is on the way

pushed : (before since rest : List PlaceAt) (n : PlaceAt) → (before ++ (since ++ n ∷ [])) ++ rest ≡ before ++ (since ++ n ∷ rest)
pushed before since rest n = append_assoc before (since ++ n ∷ []) rest ∙ ap (λ ns. before ++ ns) (append_assoc since (n ∷ []) rest)

kept : (before since rest : List PlaceAt) (n : PlaceAt) → before ++ ((since ++ n ∷ []) ++ rest) ≡ before ++ (since ++ n ∷ rest)
kept before since rest n = ap (λ ns. before ++ ns) (append_assoc since (n ∷ []) rest)

pub comes : (before since rest : List PlaceAt) (n : PlaceAt) → EndsWhereThreadsBegin before → All BeginsNone since
    → IsRoleOn (before ++ (since ++ n ∷ rest)) (role_down (first_given since) (n ∷ rest))
comes before since [] n ends stays =
    record { before = before; since = since; last = n; places_are = refl; ends = ends; stays = stays; role_is = first_push since n }
comes before since (m ∷ rest) n ends stays =
    by (begins_threads n.place) refl
    (λ e. comes (before ++ (since ++ n ∷ [])) [] rest m (inr (before ++ since, n, sym (append_assoc before since (n ∷ [])), e)) (All-nil BeginsNone))
    (λ e. comes before (since ++ n ∷ []) rest m ends (All-push BeginsNone since n stays e))
  where
    by : (b : Bool) → begins_threads n.place ≡ b
        → (begins_threads n.place ≡ true → IsRoleOn ((before ++ (since ++ n ∷ [])) ++ m ∷ rest) (role_down None (m ∷ rest)))
        → (begins_threads n.place ≡ false → IsRoleOn (before ++ ((since ++ n ∷ []) ++ m ∷ rest)) (role_down (first_given (since ++ n ∷ [])) (m ∷ rest)))
        → IsRoleOn (before ++ (since ++ n ∷ m ∷ rest)) (role_down (if b then None else option_or (first_given since) (given n)) (m ∷ rest))
    by true e anew on = subst (λ (ns : List PlaceAt). IsRoleOn ns (role_down None (m ∷ rest))) (pushed before since (m ∷ rest) n) (anew e)
    by false e anew on =
        subst (λ (r : Option (List ℕ)). IsRoleOn (before ++ (since ++ n ∷ m ∷ rest)) (role_down r (m ∷ rest))) (sym (first_push since n))
        (subst (λ (ns : List PlaceAt). IsRoleOn ns (role_down (first_given (since ++ n ∷ [])) (m ∷ rest))) (kept before since (m ∷ rest) n) (on e))

-- ---- what is on the way is the role down

past : (ms : List PlaceAt) (m n : PlaceAt) (rest : List PlaceAt) (r : Option (List ℕ)) → BeginsThreads m
    → role_down r ((ms ++ m ∷ []) ++ n ∷ rest) ≡ role_down None (n ∷ rest)
past [] m n rest r b = ap (λ (t : Bool). role_down (if t then None else option_or r (given m)) (n ∷ rest)) b
past (x ∷ []) m n rest r b = past [] m n rest (role_below r x) b
past (x ∷ y ∷ ms) m n rest r b = past (y ∷ ms) m n rest (role_below r x) b

later : (x : PlaceAt) (xs : List PlaceAt) → All BeginsNone (x ∷ xs) → All BeginsNone xs
later x xs h k d lt = h (suc k) d (omega (arith, lt))

through_all : (since : List PlaceAt) (last : PlaceAt) (r : Option (List ℕ)) → All BeginsNone since
    → role_down r (since ++ last ∷ []) ≡ option_or r (first_given (since ++ last ∷ []))
through_all [] last r all = ap (option_or r) (or_none (given last))
through_all (x ∷ []) last r all =
    ap (λ (t : Bool). role_down (if t then None else option_or r (given x)) (last ∷ [])) (all zero x (omega arith))
    ∙ through_all [] last (option_or r (given x)) (All-nil BeginsNone) ∙ or_or r (given x) (first_given (last ∷ []))
through_all (x ∷ y ∷ xs) last r all =
    ap (λ (t : Bool). role_down (if t then None else option_or r (given x)) (y ∷ (xs ++ last ∷ []))) (all zero x (omega arith))
    ∙ through_all (y ∷ xs) last (option_or r (given x)) (later x (y ∷ xs) all) ∙ or_or r (given x) (first_given (y ∷ (xs ++ last ∷ [])))

behind_begin : (ms since : List PlaceAt) (m last : PlaceAt) → BeginsThreads m → All BeginsNone since
    → role_down None ((ms ++ m ∷ []) ++ (since ++ last ∷ [])) ≡ first_given (since ++ last ∷ [])
behind_begin ms [] m last b all = past ms m last [] None b ∙ through_all [] last None all
behind_begin ms (x ∷ since) m last b all = past ms m x (since ++ last ∷ []) None b ∙ through_all (x ∷ since) last None all

down_on : (before since : List PlaceAt) (last : PlaceAt) → EndsWhereThreadsBegin before → All BeginsNone since
    → role_down None (before ++ (since ++ last ∷ [])) ≡ first_given (since ++ last ∷ [])
down_on before since last (inl none) all =
    ap (λ (ns : List PlaceAt). role_down None (ns ++ (since ++ last ∷ []))) none ∙ through_all since last None all
down_on before since last (inr e) all =
    ap (λ (ns : List PlaceAt). role_down None (ns ++ (since ++ last ∷ []))) e.2 ∙ behind_begin e.0 since e.1 last e.3 all

pub is_down : (ns : List PlaceAt) (role : Option (List ℕ)) → IsRoleOn ns role → role ≡ role_down None ns
is_down ns role h = h.role_is ∙ sym (down_on h.before h.since h.last h.ends h.stays) ∙ ap (role_down None) (sym h.places_are)

-- ---- ways have nodes

pub record HasFirst (ns : List PlaceAt) : Type 0 where
  pub first : PlaceAt
  pub rest : List PlaceAt
  pub places_are : ns ≡ first ∷ rest

pub way_first : {ds : List LocatedDefinition} {s z : Standing} {p q : Located} {path : List ℕ} (l : Option (List ℕ)) (a : Reaches ds s p path z q) → HasFirst (places_along l a)
way_first l (reaches_here f) = record { first = _; rest = _; places_are = refl }
way_first l (reaches_use {f = f} e g n) = way_first (Some f) n
way_first l (reaches_left n) = record { first = _; rest = _; places_are = refl }
way_first l (reaches_right n) = record { first = _; rest = _; places_are = refl }
way_first l (reaches_copy n) = record { first = _; rest = _; places_are = refl }
way_first l (reaches_behind n) = record { first = _; rest = _; places_are = refl }
way_first l (reaches_then n) = record { first = _; rest = _; places_are = refl }
way_first l (reaches_else n) = record { first = _; rest = _; places_are = refl }
way_first l (reaches_found n) = record { first = _; rest = _; places_are = refl }
way_first l (reaches_missing n) = record { first = _; rest = _; places_are = refl }

-- a node more in front
pub node_before : (r : Option (List ℕ)) (n : PlaceAt) (ns : List PlaceAt) → HasFirst ns → role_down r (n ∷ ns) ≡ role_down (role_below r n) ns
node_before r n ns h = subst (λ (ms : List PlaceAt). role_down r (n ∷ ms) ≡ role_down (role_below r n) ms) (sym h.places_are) refl

pub on_way : (ns : List PlaceAt) → HasFirst ns → IsRoleOn ns (role_down None ns)
on_way ns h =
    subst (λ (ms : List PlaceAt). IsRoleOn ms (role_down None ms)) (sym h.places_are) (comes [] [] h.rest h.first (inl refl) (All-nil BeginsNone))
