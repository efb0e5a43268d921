-- Where chains of names without parameters end: what an end means, and that a body names what stands before it.
use Rattle.std.proofs.Common.{◌≡◌, ◌<◌, ◌≤◌, ℕ, zero, suc, ◌+◌, true, List, [], ◌∷◌, ◌++◌, ◌⊎◌, inl, inr, Some, None, length, refl, sym, ap, ◌∙◌, subst, ⊎_elim, arith}
use Rattle.std.proofs.lemmas.Bool.{cases_Bool, false≢true}
use Rattle.std.proofs.lemmas.List.{length_push}
use Rattle.std.proofs.lemmas.Option.{slice_get_within}
use Rattle.std.specs.Prelude.{slice_get}
use Rattle.sap_terms.specs.NameMap.{value_at}
use Rattle.sap_terms.specs.Tree.{Tree}
use Rattle.sap_terms.specs.Variables.{is_known}
use Rattle.sap_terms.proofs.PlainLaws.Known.{clash, in_cases, in_head, in_tail}
use Rattle.sap_macro.specs.Ends.{AreEnds, ComesTo, here, through, IsEnd, IsEndAt, IsLast}
use Rattle.sap_macro.specs.Expansion.{with_uses}
use Rattle.sap_macro.specs.Indexed.{AreIndexed, IsDefined, IsIndex, defined}
use Rattle.sap_macro.specs.Order.{AreInOrder, UsesOnly}
use Rattle.sap_macro.specs.Sources.{definition_of, definitions, written}
use Rattle.sap_macro.specs.Walked.{steps_in}
use Rattle.sap_macro.specs.Written.{Written, nil, call, parallel, replicated, act, test, lookup, Definition}
use Rattle.sap_macro.specs.code.Ending.{AreFirstEnds, EndsAt, NamesBefore}
use Rattle.sap_macro.specs.code.Steps.{IsFormed, plain_of}
use Rattle.sap_macro.specs.declared.definition.Definition as code
use Rattle.sap_macro.proofs.Built.{steps_call}
use Rattle.sap_macro.specs.declared.source.Source.{Source}
use Rattle.sap_macro.proofs.Entries.{formed_is, known_resolved, length_of, none_named, one_named, plain_is, there}
use Rattle.sap_macro.proofs.Resolving.{apart_from, unknown}

-- ---- what a body names stands before it

is_there : (ds : List Definition) (j : ℕ) (e : Definition) → slice_get ds j ≡ Some e → is_known (defined ds) e.name ≡ true
is_there [] j e at = absurd (cc)
is_there (c ∷ ds) zero e at =
    let same : c ≡ e = cc in
    subst (λ (z : Definition). is_known (c.name ∷ defined ds) z.name ≡ true) same (in_head c.name (defined ds))
is_there (c ∷ ds) (suc j) e at = in_tail e.name c.name (defined ds) (is_there ds j e at)

call_before : (ds : List Definition) (known : List (List ℕ)) → AreInOrder known ds → (k : ℕ) (d : Definition) (f : List ℕ) (ts : List Tree) → slice_get ds k ≡ Some d
    → d.body ≡ call f ts → (j : ℕ) (e : Definition) → slice_get ds j ≡ Some e → e.name ≡ f → j < k
call_before [] known h k d f ts is b j e at name = absurd (cc)
call_before (c ∷ ds) known h zero d f ts is b j e at name =
    let same : c ≡ d = cc in
    let uses : is_known known f ≡ true = subst (λ w. UsesOnly known w) (ap (λ (z : Definition). z.body) same ∙ b) h.1.0 in
    clash (is_known (defined (c ∷ ds)) f) (subst (λ n. is_known (defined (c ∷ ds)) n ≡ true) name (is_there (c ∷ ds) j e at)) (apart_from (c ∷ ds) known h f uses)
call_before (c ∷ ds) known h (suc k) d f ts is b zero e at name = omega arith
call_before (c ∷ ds) known h (suc k) d f ts is b (suc j) e at name =
    let less = call_before ds (c.name ∷ known) h.1.1 k d f ts is b j e at name in omega (arith, less)

pub named_before : (ds : List Definition) (k : ℕ) (d : Definition) (w : Written) → AreInOrder [] ds → slice_get ds k ≡ Some d → d.body ≡ w → NamesBefore ds k w
named_before ds k d nil h is b = tt
named_before ds k d (call f ts) h is b = call_before ds [] h k d f ts is b
named_before ds k d (parallel p q) h is b = tt
named_before ds k d (replicated p) h is b = tt
named_before ds k d (act a p) h is b = tt
named_before ds k d (test t u p q) h is b = tt
named_before ds k d (lookup t x p q) h is b = tt

-- ---- what an end means

none_of : (xs : List (List ℕ)) → xs ≡ [] → length xs ≡ 0
none_of xs e = ap length e

pub comes_same : (ds : List Definition) (w p : Written) → AreInOrder [] ds → ComesTo ds w p → with_uses (plain_of ds) p ≡ with_uses (plain_of ds) w
comes_same ds _ _ order (here {w = w}) = refl
comes_same ds _ p order (through {f = f} {d = d} ts is none further) =
    comes_same ds d.body p order further
    ∙ sym ((plain_is ds d f (known_resolved ds f d order is) is.name_is (none_of d.params none)).0 ts)

pub comes_less : (ds : List Definition) (w p : Written) → AreInOrder [] ds → ComesTo ds w p → steps_in ds p ≤ steps_in ds w
comes_less ds _ _ order (here {w = w}) = omega arith
comes_less ds _ p order (through {f = f} {d = d} ts is none further) =
    let most = comes_less ds d.body p order further in
    let less = (plain_is ds d f (known_resolved ds f d order is) is.name_is (none_of d.params none)).1 in
    let same = steps_call ds f ts [] in
    omega (arith, most, less, same)

some_of : (xs : List (List ℕ)) → ¬ (xs ≡ []) → ¬ (length xs ≡ 0)
some_of [] h e = h refl
some_of (x ∷ xs) h e = absurd (omega (arith, e))

-- a name that is known is a definition's
known_defined : (ds : List Definition) (f : List ℕ) → is_known (defined ds) f ≡ true → (d : Definition) × IsDefined ds f d
known_defined [] f h = absurd (false≢true h)
known_defined (c ∷ ds) f h = ⊎_elim (λ e. (c, record { at = 0; stands = refl; name_is = e })) (λ k. later (known_defined ds f k)) (in_cases f c.name (defined ds) h) where
  later : (d : Definition) × IsDefined ds f d → (d : Definition) × IsDefined (c ∷ ds) f d
  later h = (h.0, record { at = suc h.1.at; stands = h.1.stands; name_is = h.1.name_is })

formed_name : (ds : List Definition) (f : List ℕ) (ts : List Tree) → AreInOrder [] ds → IsLast ds (call f ts) → (us : List Tree) → plain_of ds f us ≡ call f us
formed_name ds f ts order last us =
    ⊎_elim
    (λ e. let it = known_defined ds f e in
    formed_is ds it.0 f (known_resolved ds f it.0 order it.1) it.1.name_is (some_of it.0.params (last it.0 it.1)) us)
    (λ e. (unknown ds f e).plain us) (cases_Bool (is_known (defined ds) f))

pub last_formed : (ds : List Definition) (p : Written) → AreInOrder [] ds → IsLast ds p → IsFormed ds p
last_formed ds nil order h = tt
last_formed ds (call f ts) order h = formed_name ds f ts order h
last_formed ds (parallel p q) order h = tt
last_formed ds (replicated p) order h = tt
last_formed ds (act a p) order h = tt
last_formed ds (test t u p q) order h = tt
last_formed ds (lookup t x p q) order h = tt

-- ---- of definitions in order one alone has a name

not_again : (c : Definition) (ds : List Definition) (known : List (List ℕ)) (j : ℕ) (e : Definition) → AreInOrder known (c ∷ ds) → slice_get ds j ≡ Some e → ¬ (e.name ≡ c.name)
not_again c ds known j e h at n =
    clash (is_known (defined ds) c.name) (subst (λ x. is_known (defined ds) x ≡ true) n (is_there ds j e at))
    (apart_from ds (c.name ∷ known) h.1.1 c.name (in_head c.name known))

one_at : (ds : List Definition) (known : List (List ℕ)) → AreInOrder known ds → (k j : ℕ) (d e : Definition) → slice_get ds k ≡ Some d → slice_get ds j ≡ Some e → d.name ≡ e.name → d ≡ e
one_at [] known h k j d e a b n = absurd (cc)
one_at (c ∷ ds) known h zero zero d e a b n = cc
one_at (c ∷ ds) known h zero (suc j) d e a b n =
    let same : c ≡ d = cc in absurd (not_again c ds known j e h b (sym n ∙ sym (ap (λ (z : Definition). z.name) same)))
one_at (c ∷ ds) known h (suc k) zero d e a b n =
    let same : c ≡ e = cc in absurd (not_again c ds known k d h a (n ∙ sym (ap (λ (z : Definition). z.name) same)))
one_at (c ∷ ds) known h (suc k) (suc j) d e a b n = one_at ds (c.name ∷ known) h.1.1 k j d e a b n

pub one_of_name : (ds : List Definition) (f : List ℕ) (d e : Definition) → AreInOrder [] ds → IsDefined ds f d → IsDefined ds f e → d ≡ e
one_of_name ds f d e order h k = one_at ds [] order h.at k.at d e h.stands k.stands (h.name_is ∙ sym k.name_is)

-- so a chain has one end
behind_name : (ds : List Definition) (f : List ℕ) (ts : List Tree) (d : Definition) (q : Written) → AreInOrder [] ds → IsDefined ds f d → d.params ≡ [] → IsLast ds q
    → ComesTo ds (call f ts) q → ComesTo ds d.body q
behind_name ds f ts d _ order is none last (here) = absurd (last d is none)
behind_name ds f ts d q order is none last (through {d = e} _ too plain rest) =
    subst (λ (z : Definition). ComesTo ds z.body q) (sym (one_of_name ds f d e order is too)) rest

at_once : (ds : List Definition) (w q : Written) → IsLast ds w → ComesTo ds w q → w ≡ q
at_once ds _ _ last (here) = refl
at_once ds _ q last (through {d = d} ts is none more) = absurd (last d is none)

pub one_end_of : (ds : List Definition) (w p q : Written) → AreInOrder [] ds → ComesTo ds w p → IsLast ds p → ComesTo ds w q → IsLast ds q → p ≡ q
one_end_of ds _ _ q order (here {w = w}) last second other = at_once ds w q last second
one_end_of ds _ p q order (through {f = f} {d = d} ts is none more) last second other =
    one_end_of ds d.body p q order more last (behind_name ds f ts d q order is none other second) other

-- ---- steps of the table

-- it stands before, so there is an end for it
pub end_within : (defs : List code.Definition) (index : List (List ℕ × ℕ)) (ends : List ℕ) (f : List ℕ) (ts : List Tree) (k : ℕ) → AreIndexed (definitions defs) index
    → NamesBefore (definitions defs) (length ends) (call f ts) → value_at index f ≡ Some k → k < length ends
end_within defs index ends f ts k h before is =
    let it : IsIndex (definitions defs) f (Some k) = subst (IsIndex (definitions defs) f) is (h f) in before k it.0 it.1 it.2

-- through a name without parameters
pub end_through : (defs : List code.Definition) (index : List (List ℕ × ℕ)) (ends : List ℕ) (f : List ℕ) (k m : ℕ) (d : code.Definition) → AreIndexed (definitions defs) index
    → AreFirstEnds (definitions defs) ends → value_at index f ≡ Some k → slice_get defs k ≡ Some d → length d.params ≡ 0 → k < length ends → slice_get ends k ≡ Some m
    → (ts : List Tree) → EndsAt (definitions defs) (call f ts) m
end_through defs index ends f k m d h first is at none within got ts =
    let ds = definitions defs in
    let defined_there = one_named defs index f k d h is at in
    let end = first k (definition_of d) within (there defs k d at) in
    let same : end.at ≡ m = some_is end.at m (sym end.told ∙ got) in (
      end.definition,
      subst (λ n. slice_get ds n ≡ Some end.definition) same end.stands,
      record { comes = through ts defined_there (no_names d.params none) end.ends_there.comes; last = end.ends_there.last },
    )
  where
    some_is : (a b : ℕ) → Some a ≡ Some b → a ≡ b
    some_is a b e = cc

    no_names : (xs : List (List ℕ)) → length xs ≡ 0 → xs ≡ []
    no_names [] e = refl
    no_names (x ∷ xs) e = absurd (omega (arith, e))

-- at a name with parameters, and at one that nothing defines
pub last_with : (defs : List code.Definition) (index : List (List ℕ × ℕ)) (f : List ℕ) (k : ℕ) (d : code.Definition) → AreInOrder [] (definitions defs)
    → AreIndexed (definitions defs) index → value_at index f ≡ Some k → slice_get defs k ≡ Some d → ¬ (length d.params ≡ 0) → (ts : List Tree) → IsLast (definitions defs) (call f ts)
last_with defs index f k d order h is at some ts e defined_too none =
    let same = one_of_name (definitions defs) f e (definition_of d) order defined_too (one_named defs index f k d h is at) in
    some (ap length (sym (ap (λ (z : Definition). z.params) same) ∙ none))

pub last_unknown : (defs : List code.Definition) (index : List (List ℕ × ℕ)) (f : List ℕ) → AreIndexed (definitions defs) index → value_at index f ≡ None
    → (ts : List Tree) → IsLast (definitions defs) (call f ts)
last_unknown defs index f h is ts d defined_too none =
    let ds = definitions defs in
    clash (is_known (defined ds) f) (subst (λ n. is_known (defined ds) n ≡ true) defined_too.name_is (is_there ds defined_too.at d defined_too.stands)) (none_named defs index f h is)

-- one definition more
got_before : (xs : List ℕ) (m k : ℕ) → k < length xs → slice_get (xs ++ m ∷ []) k ≡ slice_get xs k
got_before [] m k h = absurd (omega (arith, h))
got_before (x ∷ xs) m zero h = refl
got_before (x ∷ xs) m (suc k) h = let less : k < length xs = omega (arith, h) in got_before xs m k less

got_last : (xs : List ℕ) (m : ℕ) → slice_get (xs ++ m ∷ []) (length xs) ≡ Some m
got_last [] m = refl
got_last (x ∷ xs) m = got_last xs m

less_or_same : (a b : ℕ) → a < b + 1 → (a < b) ⊎ (a ≡ b)
less_or_same zero zero h = inr refl
less_or_same zero (suc b) h = inl (omega arith)
less_or_same (suc a) zero h = absurd (omega (arith, h))
less_or_same (suc a) (suc b) h = ⊎_elim (λ l. inl (omega (arith, l))) (λ e. inr (ap suc e)) (less_or_same a b (omega (arith, h)))

pub one_end : (ds : List Definition) (ends later : List ℕ) (m : ℕ) → later ≡ ends ++ m ∷ [] → AreFirstEnds ds ends
    → ((d : Definition) → slice_get ds (length ends) ≡ Some d → EndsAt ds d.body m) → AreFirstEnds ds later
one_end ds ends later m same first now k d within at =
    subst (λ es. IsEndAt ds es k d) (sym same) (⊎_elim (λ less. before less (first k d less at)) (λ e. last e (now d (subst (λ n. slice_get ds n ≡ Some d) e at))) (cases within)) where
      cases : k < length later → (k < length ends) ⊎ (k ≡ length ends)
      cases h =
          let long : length later ≡ length ends + 1 = ap length same ∙ length_push ends m in
          let most : k < length ends + 1 = omega (arith, h, long) in
          less_or_same k (length ends) most

      before : k < length ends → IsEndAt ds ends k d → IsEndAt ds (ends ++ m ∷ []) k d
      before less h = record { at = h.at; definition = h.definition; told = got_before ends m k less ∙ h.told; stands = h.stands; ends_there = h.ends_there }

      last : k ≡ length ends → EndsAt ds d.body m → IsEndAt ds (ends ++ m ∷ []) k d
      last e h = record {
        at = m;
        definition = h.0;
        told = ap (slice_get (ends ++ m ∷ [])) e ∙ got_last ends m;
        stands = h.1;
        ends_there = h.2;
      }

pub none_first : (ds : List Definition) (ends : List ℕ) → ends ≡ [] → AreFirstEnds ds ends
none_first ds ends none k d within at = absurd (let e : length ends ≡ 0 = ap length none in omega (arith, within, e))

-- the first are all
pub all_first : (ds : List Definition) (ends : List ℕ) → AreEnds ds ends → AreFirstEnds ds ends
all_first ds ends h k d within at = h k d at

pub first_all : (ds : List Definition) (ends : List ℕ) → length ends ≡ length ds → AreFirstEnds ds ends → AreEnds ds ends
first_all ds ends long h k d at =
    let within = slice_get_within ds k d at in h k d (omega (arith, within, long)) at

-- each definition has an end, so a name of one is before them all
pub names_all : (ds : List Definition) (ends : List ℕ) (w : Written) → AreEnds ds ends → NamesBefore ds (length ends) w
names_all ds ends nil h = tt
names_all ds ends (call f ts) h = λ k d at name.
    let end = h k d at in slice_get_within ends k end.at end.told
names_all ds ends (parallel p q) h = tt
names_all ds ends (replicated p) h = tt
names_all ds ends (act a p) h = tt
names_all ds ends (test t u p q) h = tt
names_all ds ends (lookup t x p q) h = tt

-- a process that ends no chain but its own
pub own_end : (ds : List Definition) (w : Written) → IsLast ds w → IsEnd ds w w
own_end ds w h = record { comes = here; last = h }

-- ---- of a definition of the program's own

module _ (defs : List code.Definition) (ends : List ℕ) (k : ℕ) (d : code.Definition) (body : Source) where
  pub named_body : AreInOrder [] (definitions defs) → k ≡ length ends → slice_get defs k ≡ Some d → body ≡ d.body.value → NamesBefore (definitions defs) (length ends) (written body)
  named_body order same at is =
      subst (λ n. NamesBefore (definitions defs) n (written body)) same
      (named_before (definitions defs) k (definition_of d) (written body) order (there defs k d at) (ap written (sym is)))

  its_body : (e : Definition) → k ≡ length ends → slice_get defs k ≡ Some d → body ≡ d.body.value → slice_get (definitions defs) (length ends) ≡ Some e → written body ≡ e.body
  its_body e same at is there_too =
      let one : definition_of d ≡ e = some_is (sym (there defs k d at) ∙ ap (slice_get (definitions defs)) same ∙ there_too) in
      ap written is ∙ ap (λ (z : Definition). z.body) one
    where
      some_is : Some (definition_of d) ≡ Some e → definition_of d ≡ e
      some_is e = cc

  pub own_of_body : (e : Definition) → k ≡ length ends → slice_get defs k ≡ Some d → body ≡ d.body.value → IsLast (definitions defs) (written body)
      → slice_get (definitions defs) (length ends) ≡ Some e → EndsAt (definitions defs) e.body k
  own_of_body e same at is last there_too =
      let it = its_body e same at is there_too in
      (e, ap (slice_get (definitions defs)) same ∙ there_too, own_end (definitions defs) e.body (subst (IsLast (definitions defs)) it last))

  pub ends_of_body : (m : ℕ) (e : Definition) → k ≡ length ends → slice_get defs k ≡ Some d → body ≡ d.body.value → EndsAt (definitions defs) (written body) m
      → slice_get (definitions defs) (length ends) ≡ Some e → EndsAt (definitions defs) e.body m
  ends_of_body m e same at is h there_too =
      subst (λ w. EndsAt (definitions defs) w m) (its_body e same at is there_too) h

pub stands_within : (defs : List code.Definition) (w : Written) (m : ℕ) → EndsAt (definitions defs) w m → m < length defs
stands_within defs w m h =
    let within = slice_get_within (definitions defs) m h.0 h.1 in
    let same = length_of defs in
    omega (arith, within, same)

pub end_is : (defs : List code.Definition) (w : Written) (m : ℕ) (d : code.Definition) (body : Source) → EndsAt (definitions defs) w m → slice_get defs m ≡ Some d
    → body ≡ d.body.value → IsEnd (definitions defs) w (written body)
end_is defs w m d body h at is =
    let same : Some (definition_of d) ≡ Some h.0 = sym (there defs m d at) ∙ h.1 in
    let one : definition_of d ≡ h.0 = cc in
    subst (IsEnd (definitions defs) w) (sym (ap written is ∙ ap (λ (z : Definition). z.body) one)) h.2

-- ---- of the definition of a name

pub end_within_all : (defs : List code.Definition) (index : List (List ℕ × ℕ)) (ends : List ℕ) (f : List ℕ) (k : ℕ) → AreIndexed (definitions defs) index
    → AreEnds (definitions defs) ends → value_at index f ≡ Some k → k < length ends
end_within_all defs index ends f k h all is =
    let it : IsIndex (definitions defs) f (Some k) = subst (IsIndex (definitions defs) f) is (h f) in
    let end = all k it.0 it.1 in slice_get_within ends k end.at end.told

pub end_index : (defs : List code.Definition) (index : List (List ℕ × ℕ)) (ends : List ℕ) (f : List ℕ) (k m : ℕ) → AreIndexed (definitions defs) index
    → AreEnds (definitions defs) ends → value_at index f ≡ Some k → slice_get ends k ≡ Some m → m < length defs
end_index defs index ends f k m h all is got =
    let it : IsIndex (definitions defs) f (Some k) = subst (IsIndex (definitions defs) f) is (h f) in
    let end = all k it.0 it.1 in
    let same : end.at ≡ m = some_index end.at m (sym end.told ∙ got) in
    let within = slice_get_within (definitions defs) end.at end.definition end.stands in
    let long = length_of defs in
    omega (arith, same, within, long)
  where
    some_index : (a b : ℕ) → Some a ≡ Some b → a ≡ b
    some_index a b e = cc

pub ends_with : (defs : List code.Definition) (ends : List ℕ) (k m : ℕ) (d e : code.Definition) (body : Source) → AreEnds (definitions defs) ends
    → slice_get defs k ≡ Some d → slice_get ends k ≡ Some m → slice_get defs m ≡ Some e → body ≡ e.body.value
    → IsEnd (definitions defs) (definition_of d).body (written body)
ends_with defs ends k m d e body all at got there_too is =
    let end = all k (definition_of d) (there defs k d at) in
    let same : end.at ≡ m = some_index end.at m (sym end.told ∙ got) in
    end_is defs (definition_of d).body m e body (end.definition, subst (λ n. slice_get (definitions defs) n ≡ Some end.definition) same end.stands, end.ends_there) there_too is
  where
    some_index : (a b : ℕ) → Some a ≡ Some b → a ≡ b
    some_index a b e = cc
