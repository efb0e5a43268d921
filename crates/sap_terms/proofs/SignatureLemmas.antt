-- Names stand once in a signature, and its destructors head left sides.
use Rattle.std.proofs.Common.{◌≡◌, ℕ, List, [], ◌∷◌, ◌++◌, Bool, true, false, ◌&&◌, ◌||◌, Some, None, ◌+◌, drop, refl, sym, ap, subst, ◌∙◌, IsTrue, is_some, not}
use Rattle.std.proofs.lemmas.Slice.Eq.{bytes_eq-Decides}
use Rattle.std.specs.Prelude.{if◌then◌else◌, slice_get, nat_eq}
use Rattle.std.specs.Option.{option_map_or}
use Rattle.std.proofs.lemmas.Bool.Decides.{Decides-eqb}
use Rattle.std.specs.Str.{bytes_eq}
use Rattle.sap_terms.specs.declared.signature.Symbol.{Symbol}
use Rattle.sap_terms.specs.Tree.{Tree, apply, none, more}
use Rattle.sap_terms.specs.Signature.{Sig, find_symbol, IsMap, declared, declared_all, is_destructor_of, first_clash, is_held_otherwise, same_bool, added, HoldsSymbols, HoldsBuiltins, has_builtin, builtin_symbols, pairs_alone}
use Rattle.sap_terms.specs.declared.signature.Builtin.{Builtin}
use Rattle.sap_terms.specs.declared.signature.Builtin.TheVariants.{Hashing, Symmetric, Asymmetric, Signing, RevealingSigning}
use Rattle.sap_terms.specs.Equations.{equations, IsInstance, first, second, symmetric, asymmetric, signing, revealing, revealed, IsDestructor, app0, app1, app2, pair_name, fst_name, snd_name, senc_name, sdec_name, aenc_name, adec_name, pk_name, sign_name, verify_name, reveal_sign_name, reveal_verify_name, get_message_name, true_name}
use Rattle.sap_terms.specs.code.SameLaws.{and_left, and_right, same_name}
use Rattle.sap_terms.proofs.PlainLaws.Lists.{drop_got}

-- names that differ differ the other way round
other_name : (a b : List ℕ) → bytes_eq a b ≡ false → bytes_eq b a ≡ false
other_name a b h = at (bytes_eq b a) refl where
  at : (t : Bool) → bytes_eq b a ≡ t → t ≡ false
  at false e = refl
  at true e = let same : b ≡ a = (bytes_eq-Decides b a).0 e in
      let there : bytes_eq a b ≡ true = subst (λ c. bytes_eq a c ≡ true) (sym same) (same_name a) in
      cc

-- one more symbol is not found under another name
find-push : (ss : List Symbol) (x : Symbol) (n : List ℕ) → find_symbol ss n ≡ None → bytes_eq x.name n ≡ false → find_symbol (ss ++ x ∷ []) n ≡ None
find-push [] x n h o = rw o refl
find-push (s ∷ ss) x n h o =
    elim (bytes_eq s.name n) as (λ t. (if t then Some s else find_symbol ss n) ≡ None → (if t then Some s else find_symbol (ss ++ x ∷ []) n) ≡ None) [
      | true ↦ λ h. cc
      | false ↦ λ h. find-push ss x n h o
    ] h

-- a symbol whose name isn't held comes last
pub IsMap-push : (ss : List Symbol) (x : Symbol) → IsMap ss → find_symbol ss x.name ≡ None → IsMap (ss ++ x ∷ [])
IsMap-push [] x m h = (refl, tt)
IsMap-push (s ∷ ss) x m h =
    elim (bytes_eq s.name x.name) as (λ t. bytes_eq s.name x.name ≡ t → (if t then Some s else find_symbol ss x.name) ≡ None → IsMap (s ∷ (ss ++ x ∷ []))) [
      | true ↦ λ e h. cc
      | false ↦ λ e h. (find-push ss x s.name m.0 (other_name s.name x.name e), IsMap-push ss x m.1 h)
    ] refl h

pub IsMap-declared : (ss : List Symbol) (x : Symbol) → IsMap ss → IsMap (declared ss x.name x.arity x.private)
IsMap-declared ss x m =
    elim (find_symbol ss x.name) as (λ o. find_symbol ss x.name ≡ o → IsMap (if is_some o then ss else ss ++ x ∷ [])) [
      | None ↦ λ h. IsMap-push ss x m h
      | Some s ↦ λ h. m
    ] refl

pub IsMap-declared_all : (ss xs : List Symbol) → IsMap ss → IsMap (declared_all ss xs)
IsMap-declared_all ss [] m = m
IsMap-declared_all ss (x ∷ xs) m = IsMap-declared_all (declared ss x.name x.arity x.private) xs (IsMap-declared ss x m)

-- what is found is found when one more symbol stands last
find-kept_push : (ss : List Symbol) (x : Symbol) (n : List ℕ) (s : Symbol) → find_symbol ss n ≡ Some s → find_symbol (ss ++ x ∷ []) n ≡ Some s
find-kept_push [] x n s h = cc
find-kept_push (r ∷ rs) x n s h =
    elim (bytes_eq r.name n) as (λ t. (if t then Some r else find_symbol rs n) ≡ Some s → (if t then Some r else find_symbol (rs ++ x ∷ []) n) ≡ Some s) [
      | true ↦ λ h. h
      | false ↦ λ h. find-kept_push rs x n s h
    ] h

find-kept : (ss : List Symbol) (x : Symbol) (n : List ℕ) (s : Symbol) → find_symbol ss n ≡ Some s → find_symbol (declared ss x.name x.arity x.private) n ≡ Some s
find-kept ss x n s h =
    elim (find_symbol ss x.name) as (λ o. find_symbol (if is_some o then ss else ss ++ x ∷ []) n ≡ Some s) [
      | None ↦ find-kept_push ss x n s h
      | Some r ↦ h
    ]

find-kept_all : (ss xs : List Symbol) (n : List ℕ) (s : Symbol) → find_symbol ss n ≡ Some s → find_symbol (declared_all ss xs) n ≡ Some s
find-kept_all ss [] n s h = h
find-kept_all ss (x ∷ xs) n s h = find-kept_all (declared ss x.name x.arity x.private) xs n s (find-kept ss x n s h)

-- a symbol that stands last and is not found before it is found
find-last : (ss : List Symbol) (x : Symbol) → find_symbol ss x.name ≡ None → find_symbol (ss ++ x ∷ []) x.name ≡ Some x
find-last [] x h = rw (same_name x.name) refl
find-last (r ∷ rs) x h =
    elim (bytes_eq r.name x.name) as (λ t. (if t then Some r else find_symbol rs x.name) ≡ None → (if t then Some r else find_symbol (rs ++ x ∷ []) x.name) ≡ Some x) [
      | true ↦ λ h. cc
      | false ↦ λ h. find-last rs x h
    ] h

-- what is found has the name
found_name : (ss : List Symbol) (n : List ℕ) (s : Symbol) → find_symbol ss n ≡ Some s → s.name ≡ n
found_name [] n s h = cc
found_name (r ∷ rs) n s h =
    elim (bytes_eq r.name n) as (λ t. bytes_eq r.name n ≡ t → (if t then Some r else find_symbol rs n) ≡ Some s → s.name ≡ n) [
      | true ↦ λ e h. let same : r ≡ s = cc in ap (λ (q : Symbol). q.name) (sym same) ∙ (bytes_eq-Decides r.name n).0 e
      | false ↦ λ e h. found_name rs n s h
    ] refl h

not_false : (b : Bool) → not b ≡ false → b ≡ true
not_false true h = refl
not_false false h = cc

same_bool_is : (b c : Bool) → same_bool b c ≡ true → b ≡ c
same_bool_is true c e = sym e
same_bool_is false true e = cc
same_bool_is false false e = refl

-- a symbol that isn't held otherwise is held once it is declared
declared_held : (ss : List Symbol) (x : Symbol) → is_held_otherwise ss x ≡ false → find_symbol (declared ss x.name x.arity x.private) x.name ≡ Some x
declared_held ss x h =
    elim (find_symbol ss x.name) as (λ o. find_symbol ss x.name ≡ o → option_map_or (λ (s : Symbol). not (nat_eq s.arity x.arity && same_bool s.private x.private)) o false ≡ false → find_symbol (if is_some o then ss else ss ++ x ∷ []) x.name ≡ Some x) [
      | None ↦ λ e h. find-last ss x e
      | Some s ↦ λ e h. let t = not_false _ h in
          let arities = (Decides-eqb s.arity x.arity).0 (and_left _ _ t) in
          let kinds = same_bool_is s.private x.private (and_right _ _ t) in
          let names = found_name ss x.name s e in
          e ∙ λ i. Some (record { name = names i; arity = arities i; private = kinds i })
    ] refl h

-- another symbol is found as before
find-other : (ss : List Symbol) (x : Symbol) (n : List ℕ) → bytes_eq x.name n ≡ false → find_symbol (declared ss x.name x.arity x.private) n ≡ find_symbol ss n
find-other ss x n o =
    elim (find_symbol ss x.name) as (λ r. find_symbol (if is_some r then ss else ss ++ x ∷ []) n ≡ find_symbol ss n) [ None ↦ pushed ss | Some s ↦ refl ]
  where
    pushed : (ss : List Symbol) → find_symbol (ss ++ x ∷ []) n ≡ find_symbol ss n
    pushed [] = rw o refl
    pushed (r ∷ rs) = ap (λ q. if bytes_eq r.name n then Some r else q) (pushed rs)

-- the parts of "none is held otherwise"
clash_parts : (ss : List Symbol) (x : Symbol) (xs : List Symbol) → first_clash ss (x ∷ xs) ≡ None → (is_held_otherwise ss x ≡ false) × (first_clash ss xs ≡ None)
clash_parts ss x xs h =
    elim (is_held_otherwise ss x) as (λ b. (if b then Some x.name else first_clash ss xs) ≡ None → (b ≡ false) × (first_clash ss xs ≡ None)) [
      | true ↦ λ h. cc
      | false ↦ λ h. (refl, h)
    ] h

-- a symbol of another name makes none of these held otherwise
no_clash_after : (ss : List Symbol) (x : Symbol) (xs : List Symbol) → find_symbol xs x.name ≡ None → first_clash ss xs ≡ None → first_clash (declared ss x.name x.arity x.private) xs ≡ None
no_clash_after ss x [] f h = refl
no_clash_after ss x (y ∷ ys) f h =
    elim (bytes_eq y.name x.name) as (λ t. bytes_eq y.name x.name ≡ t → (if t then Some y else find_symbol ys x.name) ≡ None → first_clash (declared ss x.name x.arity x.private) (y ∷ ys) ≡ None) [
      | true ↦ λ e f. cc
      | false ↦ λ e f. let p = clash_parts ss y ys h in
          let same = find-other ss x y.name (other_name y.name x.name e) in
          let free : is_held_otherwise (declared ss x.name x.arity x.private) y ≡ false = ap (λ o. option_map_or (λ (s : Symbol). not (nat_eq s.arity y.arity && same_bool s.private y.private)) o false) same ∙ p.0 in
          ap (λ b. if b then Some y.name else first_clash (declared ss x.name x.arity x.private) ys) free ∙ no_clash_after ss x ys f p.1
    ] refl f

-- symbols of names of their own that aren't held otherwise are held once they are declared
declared_all_held : (ss xs : List Symbol) → IsMap xs → first_clash ss xs ≡ None → HoldsSymbols (declared_all ss xs) xs
declared_all_held ss [] m h = tt
declared_all_held ss (x ∷ xs) m h =
    let p = clash_parts ss x xs h in
    let next = declared ss x.name x.arity x.private in
    (find-kept_all next xs x.name x (declared_held ss x p.0), declared_all_held next xs m.1 (no_clash_after ss x xs m.0 p.1))

held-kept : (ss rs xs : List Symbol) → ((n : List ℕ) (s : Symbol) → find_symbol ss n ≡ Some s → find_symbol rs n ≡ Some s) → HoldsSymbols ss xs → HoldsSymbols rs xs
held-kept ss rs [] k h = tt
held-kept ss rs (x ∷ xs) k h = (k x.name x h.0, held-kept ss rs xs k h.1)

-- one more symbol leaves builtins held
pub HoldsBuiltins-push : (g : Sig) (x : Symbol) → HoldsBuiltins g → HoldsBuiltins (record { symbols = g.symbols ++ x ∷ []; builtins = g.builtins })
HoldsBuiltins-push g x h Hashing b = held-kept g.symbols _ (builtin_symbols Hashing) (find-kept_push g.symbols x) (h Hashing b)
HoldsBuiltins-push g x h Symmetric b = held-kept g.symbols _ (builtin_symbols Symmetric) (find-kept_push g.symbols x) (h Symmetric b)
HoldsBuiltins-push g x h Asymmetric b = held-kept g.symbols _ (builtin_symbols Asymmetric) (find-kept_push g.symbols x) (h Asymmetric b)
HoldsBuiltins-push g x h Signing b = held-kept g.symbols _ (builtin_symbols Signing) (find-kept_push g.symbols x) (h Signing b)
HoldsBuiltins-push g x h RevealingSigning b = held-kept g.symbols _ (builtin_symbols RevealingSigning) (find-kept_push g.symbols x) (h RevealingSigning b)

-- and so does a symbol that is declared, be it new or held
pub HoldsBuiltins-declared : (g : Sig) (x : Symbol) → HoldsBuiltins g → HoldsBuiltins (record g { symbols = declared g.symbols x.name x.arity x.private })
HoldsBuiltins-declared g x h =
    elim (find_symbol g.symbols x.name) as (λ o. HoldsBuiltins (record g { symbols = if is_some o then g.symbols else g.symbols ++ x ∷ [] })) [
      | None ↦ HoldsBuiltins-push g x h
      | Some s ↦ h
    ]

-- no builtin was added to pairs alone
pub HoldsBuiltins-none : HoldsBuiltins pairs_alone
HoldsBuiltins-none Hashing b = absurd (cc (b))
HoldsBuiltins-none Symmetric b = absurd (cc (b))
HoldsBuiltins-none Asymmetric b = absurd (cc (b))
HoldsBuiltins-none Signing b = absurd (cc (b))
HoldsBuiltins-none RevealingSigning b = absurd (cc (b))

builtin_map : (b : Builtin) → IsMap (builtin_symbols b)
builtin_map Hashing = (refl, tt)
builtin_map Symmetric = (refl, (refl, tt))
builtin_map Asymmetric = (refl, (refl, (refl, tt)))
builtin_map Signing = (refl, (refl, (refl, (refl, tt))))
builtin_map RevealingSigning = (refl, (refl, (refl, (refl, (refl, tt)))))

-- a builtin's symbols are held once it is added, and those of the others stay held
pub HoldsBuiltins-added : (g : Sig) (b : Builtin) → HoldsBuiltins g → first_clash g.symbols (builtin_symbols b) ≡ None → HoldsBuiltins (added g b)
HoldsBuiltins-added g b h f c t = at b c f t where
  new : (b : Builtin) → first_clash g.symbols (builtin_symbols b) ≡ None → HoldsSymbols (declared_all g.symbols (builtin_symbols b)) (builtin_symbols b)
  new b f = declared_all_held g.symbols (builtin_symbols b) (builtin_map b) f

  old : (b c : Builtin) → has_builtin g c ≡ true → HoldsSymbols (declared_all g.symbols (builtin_symbols b)) (builtin_symbols c)
  old b c t = held-kept g.symbols _ (builtin_symbols c) (find-kept_all g.symbols (builtin_symbols b)) (h c t)

  at : (b c : Builtin) → first_clash g.symbols (builtin_symbols b) ≡ None → has_builtin (added g b) c ≡ true → HoldsSymbols (declared_all g.symbols (builtin_symbols b)) (builtin_symbols c)
  at Hashing Hashing f t = new Hashing f
  at Hashing Symmetric f t = old Hashing Symmetric t
  at Hashing Asymmetric f t = old Hashing Asymmetric t
  at Hashing Signing f t = old Hashing Signing t
  at Hashing RevealingSigning f t = old Hashing RevealingSigning t
  at Symmetric Hashing f t = old Symmetric Hashing t
  at Symmetric Symmetric f t = new Symmetric f
  at Symmetric Asymmetric f t = old Symmetric Asymmetric t
  at Symmetric Signing f t = old Symmetric Signing t
  at Symmetric RevealingSigning f t = old Symmetric RevealingSigning t
  at Asymmetric Hashing f t = old Asymmetric Hashing t
  at Asymmetric Symmetric f t = old Asymmetric Symmetric t
  at Asymmetric Asymmetric f t = new Asymmetric f
  at Asymmetric Signing f t = old Asymmetric Signing t
  at Asymmetric RevealingSigning f t = old Asymmetric RevealingSigning t
  at Signing Hashing f t = old Signing Hashing t
  at Signing Symmetric f t = old Signing Symmetric t
  at Signing Asymmetric f t = old Signing Asymmetric t
  at Signing Signing f t = new Signing f
  at Signing RevealingSigning f t = old Signing RevealingSigning t
  at RevealingSigning Hashing f t = old RevealingSigning Hashing t
  at RevealingSigning Symmetric f t = old RevealingSigning Symmetric t
  at RevealingSigning Asymmetric f t = old RevealingSigning Asymmetric t
  at RevealingSigning Signing f t = old RevealingSigning Signing t
  at RevealingSigning RevealingSigning f t = new RevealingSigning f

-- the first clash from one place on: there, or later
pub first_clash-here : (ss xs : List Symbol) (k : ℕ) (x : Symbol) → slice_get xs k ≡ Some x → is_held_otherwise ss x ≡ true → first_clash ss (drop k xs) ≡ Some x.name
first_clash-here ss xs k x h t = ap (first_clash ss) (drop_got xs k x h) ∙ ap (λ b. if b then Some x.name else first_clash ss (drop (k + 1) xs)) t

pub first_clash-later : (ss xs : List Symbol) (k : ℕ) (x : Symbol) → slice_get xs k ≡ Some x → is_held_otherwise ss x ≡ false → first_clash ss (drop k xs) ≡ first_clash ss (drop (k + 1) xs)
first_clash-later ss xs k x h t = ap (first_clash ss) (drop_got xs k x h) ∙ ap (λ b. if b then Some x.name else first_clash ss (drop (k + 1) xs)) t

or_true : {P : Type 0} (a b : Bool) → (a || b) ≡ true → (a ≡ true → P) → (b ≡ true → P) → P
or_true true b h k l = k refl
or_true false b h k l = l h

-- a name that one of the seven tests takes heads a left side
pub heads : (g : Sig) (f : List ℕ) → is_destructor_of g f ≡ true → IsDestructor (equations g) f
heads g f h =
    let e = equations g in
    let leaf = app0 true_name in
    let is : (n : List ℕ) → bytes_eq f n ≡ true → IsDestructor e n → IsDestructor e f = λ n t d. subst (λ m. IsDestructor e m) (sym ((bytes_eq-Decides f n).0 t)) d in
    or_true _ (bytes_eq f get_message_name && g.builtins.revealing) h (λ h.
    or_true _ (bytes_eq f reveal_verify_name && g.builtins.revealing) h (λ h.
    or_true _ (bytes_eq f verify_name && g.builtins.signing) h (λ h.
    or_true _ (bytes_eq f adec_name && g.builtins.asymmetric) h (λ h.
    or_true _ (bytes_eq f sdec_name && g.builtins.symmetric) h (λ h.
    or_true (bytes_eq f fst_name) (bytes_eq f snd_name) h
    (λ h. is fst_name h (record { args = more (app2 pair_name leaf leaf) none; right = leaf; is_left = first }))
    (λ h. is snd_name h (record { args = more (app2 pair_name leaf leaf) none; right = leaf; is_left = second })))
    (λ h. is sdec_name (and_left _ _ h) (record { args = more (app2 senc_name leaf leaf) (more leaf none); right = leaf; is_left = symmetric (and_right _ _ h) })))
    (λ h. is adec_name (and_left _ _ h) (record { args = more (app2 aenc_name leaf (app1 pk_name leaf)) (more leaf none); right = leaf; is_left = asymmetric (and_right _ _ h) })))
    (λ h. is verify_name (and_left _ _ h) (record { args = more (app2 sign_name leaf leaf) (more leaf (more (app1 pk_name leaf) none)); right = leaf; is_left = signing (and_right _ _ h) })))
    (λ h. is reveal_verify_name (and_left _ _ h) (record { args = more (app2 reveal_sign_name leaf leaf) (more leaf (more (app1 pk_name leaf) none)); right = leaf; is_left = revealing (and_right _ _ h) })))
    (λ h. is get_message_name (and_left _ _ h) (record { args = more (app2 reveal_sign_name leaf leaf) none; right = leaf; is_left = revealed (and_right _ _ h) }))

head_test : Sig → Tree → Bool
head_test g (apply f ts) = is_destructor_of g f
head_test g _ = false

left_head : (g : Sig) (t r : Tree) → IsInstance (equations g) t r → head_test g t ≡ true
unfolding head_test
left_head g _ _ first = refl
left_head g _ _ second = refl
left_head g _ _ (symmetric h) = rw h refl
left_head g _ _ (asymmetric h) = rw h refl
left_head g _ _ (signing h) = rw h refl
left_head g _ _ (revealing h) = rw h refl
left_head g _ _ (revealed h) = rw h refl

-- and what heads a left side one of the seven tests takes
pub heads-back : (g : Sig) (f : List ℕ) → IsDestructor (equations g) f → is_destructor_of g f ≡ true
unfolding head_test
heads-back g f d = left_head g (apply f d.args) d.right d.is_left

-- what the test's answer says
pub heads-iff : (g : Sig) (f : List ℕ) (r : Bool) → r ≡ is_destructor_of g f → (IsTrue r → IsDestructor (equations g) f) × (IsDestructor (equations g) f → IsTrue r)
heads-iff g f r e = (λ h. heads g f (sym e ∙ h), λ d. e ∙ heads-back g f d)

pub ruleset signature_laws = (IsMap-push, IsMap-declared_all, HoldsBuiltins-push, HoldsBuiltins-added, heads-iff)
