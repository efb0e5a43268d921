-- Definitions by their indices, and arguments by their parameters.
use Rattle.std.proofs.Common.{◌≡◌, ◌<◌, ℕ, zero, suc, ◌+◌, ◌-◌, Bool, true, false, List, [], ◌∷◌, ◌++◌, ◌||◌, Option, Some, None, length, take, drop, refl, sym, ap, ◌∙◌, subst, ⊎_elim, arith, is_some}
use Rattle.std.proofs.lemmas.Bool.{cases_Bool}
use Rattle.std.proofs.lemmas.Option.{slice_get-map, slice_get_within}
use Rattle.std.specs.Option.{option_map, unwrap_or}
use Rattle.std.specs.Prelude.{if◌then◌else◌, slice_get}
use Rattle.std.specs.Str.{bytes_eq}
use Rattle.sap_terms.specs.Choice.{Choice}
use Rattle.sap_terms.specs.NameMap.{Puts, value_at}
use Rattle.sap_terms.specs.Tree.{Tree, public}
use Rattle.sap_terms.specs.Variables.{is_known}
use Rattle.sap_terms.specs.View.{tree}
use Rattle.sap_terms.specs.declared.term.Term.{Term}
use Rattle.sap_terms.specs.declared.var.Var.{Var}
use Rattle.sap_terms.proofs.PlainLaws.Lists.{drop_got, take_got}
use Rattle.sap_macro.specs.Expansion.{put, where_none, with_uses}
use Rattle.sap_macro.specs.Order.{AreInOrder}
use Rattle.sap_macro.specs.Sources.{definition_of, definitions, written}
use Rattle.sap_macro.specs.Written.{Written, call, Definition}
use Rattle.sap_macro.specs.code.Entering.{ArePut}
use Rattle.sap_macro.specs.Indexed.{defined, IsDefined, IsIndex, AreIndexed}
use Rattle.sap_macro.specs.code.Standings.{tree_or}
use Rattle.sap_macro.specs.Walked.{steps_in}
use Rattle.sap_macro.specs.code.Steps.{IsResolved, plain_of}
use Rattle.sap_macro.specs.declared.definition.Definition as code
use Rattle.sap_macro.specs.declared.source.Source.{Source}
use Rattle.sap_macro.specs.declared.source.Source.TheVariants.{Call}
use Rattle.sap_terms.proofs.PlainLaws.Known.{one_name}
use Rattle.sap_macro.proofs.Built.{steps_use}
use Rattle.sap_macro.proofs.Resolving.{resolved}

-- ---- indices

-- the definition at an index of the program's own
pub there : (defs : List code.Definition) (k : ℕ) (d : code.Definition) → slice_get defs k ≡ Some d → slice_get (definitions defs) k ≡ Some (definition_of d)
there defs k d is = slice_get-map definition_of defs k ∙ ap (option_map definition_of) is

-- of the first definitions each has its index
abbrev pub IsIndexed : List Definition → ℕ → List ℕ → Option ℕ → Type 0
IsIndexed ds k f None = is_known (defined ds) f ≡ is_known (defined (drop k ds)) f
IsIndexed ds k f (Some j) = (d : Definition) × (slice_get ds j ≡ Some d) × (d.name ≡ f)

abbrev pub AreFirstIndexed : List Definition → ℕ → List (List ℕ × ℕ) → Type 0
AreFirstIndexed ds k index = (f : List ℕ) → IsIndexed ds k f (value_at index f)

pub none_indexed : (ds : List Definition) (index : List (List ℕ × ℕ)) → index ≡ [] → AreFirstIndexed ds 0 index
none_indexed ds index none f = subst (λ (m : List (List ℕ × ℕ)). IsIndexed ds 0 f (value_at m f)) (sym none) refl

pub one_indexed : (ds : List Definition) (k : ℕ) (d : Definition) (index later : List (List ℕ × ℕ)) → AreFirstIndexed ds k index → slice_get ds k ≡ Some d
    → Puts index later d.name (Some k) → AreFirstIndexed ds (k + 1) later
one_indexed ds k d index later h is puts f =
    ⊎_elim
    (λ e. subst (IsIndexed ds (k + 1) f) (sym (puts f ∙ ap (λ b. if b then Some k else value_at index f) e)) (d, is, one_name d.name f e))
    (λ e. subst (IsIndexed ds (k + 1) f) (sym (puts f ∙ ap (λ b. if b then Some k else value_at index f) e)) (other e (value_at index f) (h f)))
    (cases_Bool (bytes_eq d.name f)) where
      other : bytes_eq d.name f ≡ false → (o : Option ℕ) → IsIndexed ds k f o → IsIndexed ds (k + 1) f o
      other e None i = i ∙ ap (λ xs. is_known (defined xs) f) (drop_got ds k d is) ∙ ap (λ b. b || is_known (defined (drop (k + 1) ds)) f) e
      other e (Some j) i = i

beyond : {X : Type 0} (xs : List X) → drop (length xs) xs ≡ []
beyond [] = refl
beyond (x ∷ xs) = beyond xs

pub all_indexed : (ds : List Definition) (n : ℕ) (index : List (List ℕ × ℕ)) → n ≡ length ds → AreFirstIndexed ds n index → AreIndexed ds index
all_indexed ds n index same h f = by (value_at index f) (h f) where
  by : (o : Option ℕ) → IsIndexed ds n f o → IsIndex ds f o
  by None i = i ∙ ap (λ m. is_known (defined (drop m ds)) f) same ∙ ap (λ xs. is_known (defined xs) f) (beyond ds)
  by (Some j) i = i

pub length_of : (defs : List code.Definition) → length (definitions defs) ≡ length defs
length_of [] = refl
length_of (d ∷ ds) = ap suc (length_of ds)

pub as_many : (defs : List code.Definition) → length defs ≡ length (definitions defs)
as_many defs = sym (length_of defs)

pub index_within : (defs : List code.Definition) (index : List (List ℕ × ℕ)) (f : List ℕ) (k : ℕ) → AreIndexed (definitions defs) index → value_at index f ≡ Some k → k < length defs
index_within defs index f k h is =
    let it : IsIndex (definitions defs) f (Some k) = subst (IsIndex (definitions defs) f) is (h f) in
    let below = slice_get_within (definitions defs) k it.0 it.1 in
    let same = length_of defs in
    omega (arith, below, same)

pub none_named : (defs : List code.Definition) (index : List (List ℕ × ℕ)) (f : List ℕ) → AreIndexed (definitions defs) index → value_at index f ≡ None → is_known (defined (definitions defs)) f ≡ false
none_named defs index f h is = subst (IsIndex (definitions defs) f) is (h f)

pub one_named : (defs : List code.Definition) (index : List (List ℕ × ℕ)) (f : List ℕ) (k : ℕ) (d : code.Definition) → AreIndexed (definitions defs) index
    → value_at index f ≡ Some k → slice_get defs k ≡ Some d → IsDefined (definitions defs) f (definition_of d)
one_named defs index f k d h is at =
    let it : IsIndex (definitions defs) f (Some k) = subst (IsIndex (definitions defs) f) is (h f) in
    let same : Some (definition_of d) ≡ Some it.0 = sym (there defs k d at) ∙ it.1 in
    let one : definition_of d ≡ it.0 = cc in
    record { at = k; stands = there defs k d at; name_is = ap (λ (e : Definition). e.name) one ∙ it.2 }

pub known_resolved : (ds : List Definition) (f : List ℕ) (d : Definition) → AreInOrder [] ds → IsDefined ds f d → IsResolved ds d
known_resolved ds f d order h = resolved ds h.at d order h.stands

-- ---- arguments

pub none_put : (args : List Tree) (terms : List (List ℕ × Term)) → terms ≡ [] → ArePut [] args terms
none_put args terms none = record {
  known = λ x. ap (λ (m : List (List ℕ × Term)). is_some (value_at m x)) none;
  put = λ other v. ap (λ (m : List (List ℕ × Term)). tree_or (value_at m v.name) (other v)) none;
}

one_got : (args : List Tree) (k : ℕ) (u : Tree) → slice_get args k ≡ Some u → drop k args ≡ u ∷ drop (k + 1) args
one_got args k u is = drop_got args k u is

no_more_args : (args : List Tree) (k : ℕ) → slice_get args k ≡ None → (drop k args ≡ []) × (drop (k + 1) args ≡ [])
no_more_args args k is = (here args k is, after args k is) where
  here : (xs : List Tree) (k : ℕ) → slice_get xs k ≡ None → drop k xs ≡ []
  here [] zero h = refl
  here [] (suc k) h = refl
  here (x ∷ xs) zero h = absurd (cc)
  here (x ∷ xs) (suc k) h = here xs k h

  after_suc : (xs : List Tree) (k : ℕ) → slice_get xs k ≡ None → drop (suc k) xs ≡ []
  after_suc [] k h = refl
  after_suc (x ∷ xs) zero h = absurd (cc)
  after_suc (x ∷ xs) (suc k) h = after_suc xs k h

  after : (xs : List Tree) (k : ℕ) → slice_get xs k ≡ None → drop (k + 1) xs ≡ []
  after xs k h = subst (λ n. drop n xs ≡ []) (let e : suc k ≡ k + 1 = omega arith in e) (after_suc xs k h)

pub one_put : (y : List ℕ) (ys : List (List ℕ)) (args : List Tree) (k : ℕ) (t : Term) (terms later : List (List ℕ × Term)) → ArePut ys (drop (k + 1) args) terms
    → Puts terms later y (Some t) → tree t ≡ unwrap_or (slice_get args k) (public []) → ArePut (y ∷ ys) (drop k args) later
one_put y ys args k t terms later h puts is =
    let at : (x : List ℕ) (b : Bool) → bytes_eq y x ≡ b → value_at later x ≡ (if b then Some t else value_at terms x)
    = λ x b e. puts x ∙ ap (λ c. if c then Some t else value_at terms x) e in
    record {
      known = λ x. ⊎_elim
          (λ e. ap is_some (at x true e) ∙ sym (ap (λ b. b || is_known ys x) e))
          (λ e. ap is_some (at x false e) ∙ h.known x ∙ sym (ap (λ b. b || is_known ys x) e))
          (cases_Bool (bytes_eq y x));
      put = λ other v. ⊎_elim
          (λ e. ap (λ (o : Option Term). tree_or o (other v)) (at v.name true e) ∙ is ∙ own other v e (slice_get args k) refl)
          (λ e. ap (λ (o : Option Term). tree_or o (other v)) (at v.name false e) ∙ h.put other v ∙ others other v e (slice_get args k) refl)
          (cases_Bool (bytes_eq y v.name));
    }
  where
    own : (other : Choice) (v : Var) → bytes_eq y v.name ≡ true → (o : Option Tree) → slice_get args k ≡ o → unwrap_or (slice_get args k) (public []) ≡ put (y ∷ ys) (drop k args) other v
    own other v e None got =
        ap (λ (q : Option Tree). unwrap_or q (public [])) got ∙ sym (ap (λ b. if b then public [] else put ys [] other v) e)
        ∙ sym (ap (λ ts. put (y ∷ ys) ts other v) (no_more_args args k got).0)
    own other v e (Some u) got =
        ap (λ (q : Option Tree). unwrap_or q (public [])) got ∙ sym (ap (λ b. if b then u else put ys (drop (k + 1) args) other v) e)
        ∙ sym (ap (λ ts. put (y ∷ ys) ts other v) (one_got args k u got))

    others : (other : Choice) (v : Var) → bytes_eq y v.name ≡ false → (o : Option Tree) → slice_get args k ≡ o → put ys (drop (k + 1) args) other v ≡ put (y ∷ ys) (drop k args) other v
    others other v e None got =
        ap (λ ts. put ys ts other v) (no_more_args args k got).1 ∙ sym (ap (λ b. if b then public [] else put ys [] other v) e)
        ∙ sym (ap (λ ts. put (y ∷ ys) ts other v) (no_more_args args k got).0)
    others other v e (Some u) got =
        sym (ap (λ b. if b then u else put ys (drop (k + 1) args) other v) e) ∙ sym (ap (λ ts. put (y ∷ ys) ts other v) (one_got args k u got))

-- ---- bodies of names without parameters

no_params : (xs : List (List ℕ)) → length xs ≡ 0 → xs ≡ []
no_params [] h = refl
no_params (x ∷ xs) h = absurd (omega (arith, h))

pub plain_is : (ds : List Definition) (d : Definition) (f : List ℕ) → IsResolved ds d → d.name ≡ f → length d.params ≡ 0
    → ((ts : List Tree) → plain_of ds f ts ≡ with_uses (plain_of ds) d.body) × (steps_in ds d.body < steps_in ds (call f []))
plain_is ds d f r name none = (
  λ ts. ap (λ x. plain_of ds x ts) (sym name) ∙ r.plain ts
      ∙ ap (λ xs. where_none xs (with_uses (plain_of ds) d.body) (call d.name ts)) (no_params d.params none),
  subst (λ x. steps_in ds d.body < steps_in ds (call x [])) name (steps_use ds d [] r),
)

some_params : (xs : List (List ℕ)) → ¬ (length xs ≡ 0) → (p q : Written) → where_none xs p q ≡ q
some_params [] h p q = absurd (h refl)
some_params (x ∷ xs) h p q = refl

-- a name with parameters stays
pub formed_is : (ds : List Definition) (d : Definition) (f : List ℕ) → IsResolved ds d → d.name ≡ f → ¬ (length d.params ≡ 0) → (ts : List Tree) → plain_of ds f ts ≡ call f ts
formed_is ds d f r name some ts =
    ap (λ x. plain_of ds x ts) (sym name) ∙ r.plain ts ∙ some_params d.params some (with_uses (plain_of ds) d.body) (call d.name ts) ∙ ap (λ x. call x ts) name

known_push : (xs : List (List ℕ)) (n x : List ℕ) → is_known (xs ++ n ∷ []) x ≡ (bytes_eq n x || is_known xs x)
known_push [] n x = refl
known_push (y ∷ ys) n x = ap (λ b. bytes_eq y x || b) (known_push ys n x) ∙ swapped (bytes_eq y x) (bytes_eq n x) (is_known ys x) where
  swapped : (a b c : Bool) → (a || (b || c)) ≡ (b || (a || c))
  swapped true true c = refl
  swapped true false c = refl
  swapped false true c = refl
  swapped false false c = refl

-- one name more
pub known_next : (names : List (List ℕ)) (k : ℕ) (n x : List ℕ) → slice_get names k ≡ Some n → is_known (take (k + 1) names) x ≡ (bytes_eq n x || is_known (take k names) x)
known_next names k n x is = ap (λ ns. is_known ns x) (take_got names k n is) ∙ known_push (take k names) n x

-- ---- chains of names without parameters

pub chain_steps : (ds : List Definition) (form body : Source) (n : ℕ) (f : List ℕ) (us : List Tree) → form ≡ Call n f us → steps_in ds (written body) < steps_in ds (call f [])
    → steps_in ds (written body) < steps_in ds (written form)
unfolding steps_in
chain_steps ds form body n f us e h = subst (λ s. steps_in ds (written body) < steps_in ds (written s)) (sym e) h

pub chain_same : (ds : List Definition) (form body : Source) (source : Written) (n : ℕ) (f : List ℕ) (us : List Tree) → form ≡ Call n f us
    → ((ts : List Tree) → plain_of ds f ts ≡ with_uses (plain_of ds) (written body))
    → with_uses (plain_of ds) (written form) ≡ with_uses (plain_of ds) source → with_uses (plain_of ds) (written body) ≡ with_uses (plain_of ds) source
chain_same ds form body source n f us e h same = sym (h us) ∙ sym (ap (λ s. with_uses (plain_of ds) (written s)) e) ∙ same

-- one parameter more, from the last one on
pub params_next : (params : List (List ℕ)) (args : List Tree) (k : ℕ) (name at : List ℕ) (t : Term) (terms later : List (List ℕ × Term)) → 0 < k → slice_get params (k - 1) ≡ Some at
    → name ≡ at → ArePut (drop k params) (drop k args) terms → Puts terms later name (Some t) → tree t ≡ unwrap_or (slice_get args (k - 1)) (public [])
    → ArePut (drop (k - 1) params) (drop (k - 1) args) later
params_next params args k name at t terms later some is same h puts value =
    let whole : k ≡ k - 1 + 1 = omega (arith, some) in
    let before : ArePut (drop (k - 1 + 1) params) (drop (k - 1 + 1) args) terms = subst (λ n. ArePut (drop n params) (drop n args) terms) whole h in
    let now = one_put at (drop (k - 1 + 1) params) args (k - 1) t terms later before (subst (λ n. Puts terms later n (Some t)) same puts) value in
    subst (λ ns. ArePut ns (drop (k - 1) args) later) (sym (drop_got params (k - 1) at is)) now
