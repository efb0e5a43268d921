-- What is met at each form, and where a walk comes from there.
use Rattle.std.proofs.Common.{◌≡◌, ◌<◌, ◌≤◌, ℕ, ◌+◌, false, List, [], ◌∷◌, ◌++◌, length, map, reverse, Option, Some, None, Result, Ok, Err, IfOk, refl, sym, ap, ◌∙◌, subst, arith}
use Rattle.std.proofs.lemmas.List.{reverse-append}
use Rattle.std.specs.Option.{option_map, option_or}
use Rattle.std.specs.Prelude.{if◌then◌else◌, slice_get}
use Rattle.sap_terms.specs.Choice.{Choice, instance}
use Rattle.sap_terms.specs.Tree.{Tree}
use Rattle.sap_terms.specs.Variables.{is_known}
use Rattle.sap_terms.specs.declared.var.Var.{Var}
use Rattle.sap_process.specs.Action.{Action}
use Rattle.sap_macro.specs.Expansion.{put, unchanged}
use Rattle.sap_macro.specs.Indexed.{defined}
use Rattle.sap_macro.specs.Located.{Located, nil_at, call_at, parallel_at, replicated_at, act_at, test_at, lookup_at}
use Rattle.sap_macro.specs.Order.{AreInOrder}
use Rattle.sap_macro.specs.Sources.{located, written}
use Rattle.sap_macro.specs.Walked.{Cost, cost_of, steps, steps_in}
use Rattle.sap_macro.specs.Written.{Written, nil, call, parallel, replicated, act, test, lookup, Definition}
use Rattle.sap_macro.specs.declared.definition.Definition as code
use Rattle.sap_macro.specs.declared.source.Source.{Source}
use Rattle.sap_origin.specs.Definitions.{LocatedDefinition, plain_definition, with_words}
use Rattle.sap_origin.specs.Origins.{words_left}
use Rattle.sap_origin.specs.Reached.{Standing, entered}
use Rattle.sap_origin.specs.declared.origin.FileWord.{FileWord}
use Rattle.sap_uses.specs.Sizes.{HaveSizes}
use Rattle.sap_uses.specs.UseCauses.{has_large}
use Rattle.sap_use_words.specs.ExpandedUses.{Led, first_with_large, large_use, led_by, uses_in, words_of}
use Rattle.sap_use_words.specs.WrittenUses.{LocatedUse, use_at}
use Rattle.sap_use_words.specs.code.Walk.{AreFewer, IsFound, IsFurther, IsInside, IsMet, IsReached, IsThere, found, found_by, found_from, led_of, standing_by, steps_from}
use Rattle.sap_use_words.specs.declared.large.Reached.{Reached}
use Rattle.sap_use_words.specs.declared.large.Reached.TheVariants.{Large, Body}
use Rattle.sap_use_words.specs.declared.met.Entry.{Entry}
use Rattle.sap_use_words.specs.declared.met.Here.{Here}
use Rattle.sap_use_words.specs.declared.met.Met.{Met}
use Rattle.sap_use_words.specs.declared.met.Met.TheVariants.{Nothing, Use, One, Two}
use Rattle.sap_use_words.proofs.Leading.{led_defined, led_unknown}
use Rattle.sap_use_words.proofs.Named.{large_append}

positive : (c : Cost) (w : Written) → 0 < steps c w
positive c nil = omega arith
positive c (call f ts) = omega arith
positive c (parallel p q) = omega arith
positive c (replicated p) = omega arith
positive c (act a p) = omega arith
positive c (test t u p q) = omega arith
positive c (lookup t x p q) = omega arith

pub some_steps : (es : List Definition) (w : Written) → 0 < steps_in es w
unfolding steps_in
some_steps es w = positive (cost_of es) w

-- ---- the forms

module _ (ds : List LocatedDefinition) (es : List Definition) (n : ℕ) (us : List FileWord) where
  there : (p : Source) (i : Here) → i.behind ≡ n → i.source.now ≡ p → (r : Choice) → found ds n us r (located p) ≡ found_from ds us r i
  there p i b s r = λ j. found ds (sym b j) us r (located (sym s j))

  fewer : (w : Written) (p : Source) (i : Here) → i.source.now ≡ p → steps_in es (written p) < steps_in es w → steps_from es i < steps_in es w
  fewer w p i s h = subst (λ (q : Source). steps_in es (written q) < steps_in es w) (sym s) h

  -- where the same is found below
  below : (w p : Source) (i : Here) (q : Located) (v : Written) → located w ≡ q → written w ≡ v → ((r : Choice) → found ds n us r q ≡ found ds n us r (located p))
      → steps_in es (written p) < steps_in es v → i.behind ≡ n → i.source.now ≡ p → IsMet ds es n us w (One i) us
  below w p i q v l t h less b s = record {
    same = λ r. ap (found ds n us r) l ∙ h r ∙ there p i b s r;
    fewer = subst (λ x. steps_from es i < steps_in es x) (sym t) (fewer v p i s less);
  }

  below_both : (w p o : Source) (i k : Here) (q : Located) (v : Written) → located w ≡ q → written w ≡ v
      → ((r : Choice) → found ds n us r q ≡ option_or (found ds n us r (located p)) (found ds n us r (located o)))
      → steps_in es (written p) < steps_in es v → steps_in es (written o) < steps_in es v → i.behind ≡ n → i.source.now ≡ p → k.behind ≡ n → k.source.now ≡ o
      → IsMet ds es n us w (Two i k) us
  below_both w p o i k q v l t h less also b s c z = record {
    same = λ r. ap (found ds n us r) l ∙ h r ∙ (λ j. option_or (there p i b s r j) (there o k c z r j));
    fewer = (
      subst (λ x. steps_from es i < steps_in es x) (sym t) (fewer v p i s less),
      subst (λ x. steps_from es k < steps_in es x) (sym t) (fewer v o k z also),
    );
  }

  found_none : (k : ℕ) (r : Choice) → found ds n us r (nil_at k) ≡ None
  unfolding found
  found_none k r = refl

  pub met_nil : (w : Source) (k : ℕ) → located w ≡ nil_at k → IsMet ds es n us w Nothing us
  met_nil w k l = record { same = λ r. ap (found ds n us r) l ∙ found_none k r; fewer = tt }

  pub met_replicated : (w p : Source) (i : Here) (k : ℕ) → located w ≡ replicated_at k (located p) → written w ≡ replicated (written p) → i.behind ≡ n → i.source.now ≡ p
      → IsMet ds es n us w (One i) us
  unfolding found steps_in
  met_replicated w p i k l t b s = below w p i (replicated_at k (located p)) (replicated (written p)) l t (λ r. refl) (omega arith) b s

  pub met_act : (w p : Source) (i : Here) (k : ℕ) (a : Action) → located w ≡ act_at k a (located p) → written w ≡ act a (written p) → i.behind ≡ n → i.source.now ≡ p
      → IsMet ds es n us w (One i) us
  unfolding found steps_in
  met_act w p i k a l t b s = below w p i (act_at k a (located p)) (act a (written p)) l t (λ r. refl) (omega arith) b s

  both : (p q : Located) (r : Choice)
      → first_with_large (uses_in (led_of ds) (standing_by n us) r p ++ uses_in (led_of ds) (standing_by n us) r q) ≡ option_or (found ds n us r p) (found ds n us r q)
  unfolding found
  both p q r = large_append (uses_in (led_of ds) (standing_by n us) r p) (uses_in (led_of ds) (standing_by n us) r q)

  pub met_parallel : (w p q : Source) (i j : Here) (k : ℕ) → located w ≡ parallel_at k (located p) (located q) → written w ≡ parallel (written p) (written q)
      → i.behind ≡ n → i.source.now ≡ p → j.behind ≡ n → j.source.now ≡ q → IsMet ds es n us w (Two i j) us
  unfolding found steps_in
  met_parallel w p q i j k l t b s c z =
      below_both w p q i j (parallel_at k (located p) (located q)) (parallel (written p) (written q)) l t (λ r. both (located p) (located q) r) (omega arith) (omega arith) b s c z

  pub met_test : (w p q : Source) (i j : Here) (k : ℕ) (t u : Tree) → located w ≡ test_at k t u (located p) (located q) → written w ≡ test t u (written p) (written q)
      → i.behind ≡ n → i.source.now ≡ p → j.behind ≡ n → j.source.now ≡ q → IsMet ds es n us w (Two i j) us
  unfolding found steps_in
  met_test w p q i j k t u l e b s c z =
      below_both w p q i j (test_at k t u (located p) (located q)) (test t u (written p) (written q)) l e (λ r. both (located p) (located q) r) (omega arith) (omega arith) b s c z

  pub met_lookup : (w p q : Source) (i j : Here) (k : ℕ) (t : Tree) (x : Var) → located w ≡ lookup_at k t x (located p) (located q) → written w ≡ lookup t x (written p) (written q)
      → i.behind ≡ n → i.source.now ≡ p → j.behind ≡ n → j.source.now ≡ q → IsMet ds es n us w (Two i j) us
  unfolding found steps_in
  met_lookup w p q i j k t x l e b s c z =
      below_both w p q i j (lookup_at k t x (located p) (located q)) (lookup t x (written p) (written q)) l e (λ r. both (located p) (located q) r) (omega arith) (omega arith) b s c z

  pub met_unknown : (w : Source) (k : ℕ) (f : List ℕ) (ts : List Tree) → located w ≡ call_at k f ts → is_known (defined (map plain_definition ds)) f ≡ false → IsMet ds es n us w Nothing us
  unfolding found
  met_unknown w k f ts l none = record {
    same = λ r. ap (found ds n us r) l ∙ ap first_with_large (led_unknown ds f none (standing_by n us) r k ts);
    fewer = tt;
  }

-- ---- names of definitions

map_last : (us : List FileWord) (w : FileWord) → map words_left (us ++ w ∷ []) ≡ map words_left us ++ words_left w ∷ []
map_last [] w = refl
map_last (u ∷ us) w = ap (λ l. words_left u ∷ l) (map_last us w)

last_first : (us : List FileWord) (w : FileWord) → reverse (map words_left (us ++ w ∷ [])) ≡ words_left w ∷ reverse (map words_left us)
last_first us w = ap reverse (map_last us w) ∙ reverse-append (map words_left us) (words_left w ∷ [])

entered_by : (us : List FileWord) (w : FileWord) (d : LocatedDefinition) → entered (standing_by w.behind us) w.left d ≡ standing_by d.behind (us ++ w ∷ [])
entered_by us w d = λ j. record { behind = d.behind; uses = sym (last_first us w) j }

no_params : (xs : List (List ℕ)) → length xs ≡ 0 → xs ≡ []
no_params [] h = refl
no_params (x ∷ xs) h = absurd (omega (arith, h))

module _ (ds : List LocatedDefinition) (es : List Definition) (us : List FileWord) (order : AreInOrder [] (map plain_definition ds)) where
  -- where there are parameters
  by_some : (m : Led) (d : LocatedDefinition) (xs : List (List ℕ)) (s : Standing) (r : Choice) (k : ℕ) (ts : List Tree) → ¬ (length xs ≡ 0)
      → first_with_large (led_by m d xs s r k ts)
      ≡ (if has_large (map (instance r) ts) then Some (use_at s k d.name (map (instance r) ts))
      else first_with_large (uses_in m (entered s k d) (put d.params (map (instance r) ts) unchanged) d.body))
  by_some m d [] s r k ts h = absurd (h refl)
  by_some m d (x ∷ xs) s r k ts h = refl

  pub met_plain : (w : Source) (x : FileWord) (d : code.Definition) (i : Here) (f : List ℕ) (ts : List Tree) (j : ℕ) → located w ≡ call_at x.left f ts → written w ≡ call f ts
      → slice_get ds j ≡ Some (with_words d i.behind) → d.name ≡ f → length d.params ≡ 0 → i.source.now ≡ d.body.value → cost_of es d.name ≡ steps (cost_of es) (written d.body.value)
      → IsFurther ds es x.behind us w i (us ++ x ∷ [])
  unfolding found steps_in
  met_plain w x d i f ts j l t stands name none s cost =
      let e = with_words d i.behind in
      let same = cost in
      record {
        same = λ r.
            ap (found ds x.behind us r) l
            ∙ ap (λ g. first_with_large (led_of ds (standing_by x.behind us) r x.left g ts)) (sym name)
            ∙ ap first_with_large (led_defined ds order j e stands (standing_by x.behind us) r x.left ts)
            ∙ ap (λ xs. first_with_large (led_by (led_of ds) e xs (standing_by x.behind us) r x.left ts)) (no_params d.params none)
            ∙ ap (λ z. first_with_large (uses_in (led_of ds) z r (located d.body.value))) (entered_by us x e)
            ∙ ap (λ (q : Source). found ds i.behind (us ++ x ∷ []) r (located q)) (sym s);
        fewer =
            subst (λ (q : Source). steps (cost_of es) (written q) < steps (cost_of es) (written w)) (sym s)
            (subst (λ v. steps (cost_of es) (written d.body.value) < steps (cost_of es) v) (sym t)
            (subst (λ g. steps (cost_of es) (written d.body.value) < cost_of es g + 1) name (omega (arith, same))));
      }

  pub met_use : (w : Source) (x : Entry) (f : List ℕ) (j : ℕ) → located w ≡ call_at x.word.left f x.args.now → written w ≡ call f x.args.now
      → slice_get ds j ≡ Some (with_words x.definition.now x.behind) → x.definition.now.name ≡ f → ¬ (length x.definition.now.params ≡ 0)
      → cost_of es x.definition.now.name ≡ steps (cost_of es) (written x.definition.now.body.value) → IsMet ds es x.word.behind us w (Use x) us
  unfolding found steps_in
  met_use w x f j l t stands name some cost =
      let d = x.definition.now in
      let e = with_words d x.behind in
      let same = cost in
      record {
        same = λ r.
            let ts = map (instance r) x.args.now in
            ap (found ds x.word.behind us r) l
            ∙ ap (λ g. first_with_large (led_of ds (standing_by x.word.behind us) r x.word.left g x.args.now)) (sym name)
            ∙ ap first_with_large (led_defined ds order j e stands (standing_by x.word.behind us) r x.word.left x.args.now)
            ∙ by_some (led_of ds) e d.params (standing_by x.word.behind us) r x.word.left x.args.now some
            ∙ ap (λ z. if has_large ts then Some (use_at (standing_by x.word.behind us) x.word.left d.name ts)
            else first_with_large (uses_in (led_of ds) z (put d.params ts unchanged) (located d.body.value))) (entered_by us x.word e);
        fewer =
            subst (λ v. steps (cost_of es) (written d.body.value) < steps (cost_of es) v) (sym t)
            (subst (λ g. steps (cost_of es) (written d.body.value) < cost_of es g + 1) name (omega (arith, same)));
      }

-- ---- one after the other

fewer_more : (es : List Definition) (m : Met) (a b : ℕ) → AreFewer es m a → a ≤ b → AreFewer es m b
fewer_more es Nothing a b h le = tt
fewer_more es (Use e) a b h le = let less = h in omega (arith, less, le)
fewer_more es (One i) a b h le = let less = h in omega (arith, less, le)
fewer_more es (Two i j) a b h le =
    let less = h.0 in
    let also = h.1 in
    (omega (arith, less, le), omega (arith, also, le))

module _ (ds : List LocatedDefinition) (es : List Definition) where
  -- from a process, as far as the walk has come
  pub record IsOn (n : ℕ) (us : List FileWord) (w : Source) (i : Here) (vs : List FileWord) : Type 0 where
    pub same : (r : Choice) → found ds n us r (located w) ≡ found_from ds vs r i
    pub most : steps_from es i ≤ steps_in es (written w)

  pub on_start : (i : Here) (us : List FileWord) → IsOn i.behind us i.source.now i us
  on_start i us = record { same = λ r. refl; most = omega arith }

  pub on_further : (n : ℕ) (us vs zs : List FileWord) (w : Source) (i j : Here) → IsOn n us w i vs → IsFurther ds es i.behind vs i.source.now j zs → IsOn n us w j zs
  on_further n us vs zs w i j on step =
      let most = on.most in
      let less = step.fewer in
      record { same = λ r. on.same r ∙ step.same r; most = omega (arith, most, less) }

  pub on_met : (n : ℕ) (us vs zs : List FileWord) (w : Source) (i : Here) (m : Met) → IsOn n us w i vs → IsMet ds es i.behind vs i.source.now m zs → IsMet ds es n us w m zs
  on_met n us vs zs w i m on met =
      record { same = λ r. on.same r ∙ met.same r; fewer = fewer_more es m (steps_from es i) (steps_in es (written w)) met.fewer on.most }

  pub reached_on : (o : Option LocatedUse) (sizes : List (List ℕ × ℕ)) (i : Here) (us vs zs : List FileWord) (x : Entry) (y : Reached) → IsInside ds o sizes i us
      → IsMet ds es i.behind us i.source.now (Use x) vs → ((r : Choice) → HaveSizes r sizes → IsReached ds (found_by ds vs r x) y zs) → IsReached ds o y zs
  reached_on o sizes i us vs zs x (Large w) inside met on =
      let after = on inside.choice inside.have in
      record { found_use = after.found_use; is = inside.same ∙ met.same inside.choice ∙ after.is; words_are = after.words_are }
  reached_on o sizes i us vs zs x (Body more h) inside met on =
      let after = on inside.choice inside.have in
      record { choice = after.choice; have = after.have; same = inside.same ∙ met.same inside.choice ∙ after.same }

pub found_same : (o p : Option LocatedUse) (f : Option FileWord) (us : List FileWord) → o ≡ p → IsFound p f us → IsFound o f us
found_same o p None us e h = e ∙ h
found_same o p (Some w) us e h = record { found_use = h.found_use; is = e ∙ h.is; words_are = h.words_are }

pub found_first : (a b : Option LocatedUse) (w : FileWord) (us : List FileWord) → IsThere a w us → IsThere (option_or a b) w us
found_first a b w us h = record { found_use = h.found_use; is = ap (λ o. option_or o b) h.is; words_are = h.words_are }

-- the first has something, or nothing
pub found_or : (a b : Option LocatedUse) (f : Option FileWord) (us : List FileWord) → IsFound a f us → (f ≡ None → ⊥) → IsFound (option_or a b) f us
found_or a b None us h n = absurd (n refl)
found_or a b (Some w) us h n = found_first a b w us h

pub if_ok : {T E : Type 0} (P Q : T → Type 0) (r : Result T E) → ((x : T) → P x → Q x) → IfOk r P → IfOk r Q
if_ok P Q (Ok x) f h = f x h
if_ok P Q (Err e) f h = tt

-- ---- from the start to the end

pub found_start : (ds : List LocatedDefinition) (n : ℕ) (us : List FileWord) (p : Located) → us ≡ [] → found ds n us unchanged p ≡ large_use ds n p
unfolding found
found_start ds n us p e = ap (λ l. first_with_large (uses_in (led_of ds) (standing_by n l) unchanged p)) e

pub unchanged_sizes : (m : List (List ℕ × ℕ)) → m ≡ [] → HaveSizes unchanged m
unchanged_sizes m e = subst (HaveSizes unchanged) (sym e) (λ v. refl)

pub map_reverse : (us : List FileWord) → map words_left (reverse us) ≡ reverse (map words_left us)
map_reverse [] = refl
map_reverse (u ∷ us) =
    ap (map words_left) (reverse-append (u ∷ []) us) ∙ map_last (reverse us) u ∙ ap (λ l. l ++ words_left u ∷ []) (map_reverse us)
    ∙ sym (reverse-append (words_left u ∷ []) (map words_left us))

pub words_at_end : (o : Option LocatedUse) (w : FileWord) (us vs : List FileWord) → IsThere o w us → vs ≡ reverse us
    → option_map words_of o ≡ Some (record { word = words_left w; above = map words_left vs })
words_at_end o w us vs h e =
    let back : reverse (map words_left us) ≡ map words_left vs = sym (ap (map words_left) e ∙ map_reverse us) in
    ap (option_map words_of) h.is ∙ ap Some (h.words_are ∙ (λ i. record { word = words_left w; above = back i }))
