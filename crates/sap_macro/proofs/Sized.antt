-- The sizes that are kept are those of expansions.
use Rattle.std.proofs.Common.{◌≡◌, ℕ, ◌+◌, ◌-◌, ◌^◌, max, min, Bool, true, false, List, [], ◌∷◌, Some, drop, map, refl, sym, ap, ◌∙◌, ⊎_elim, arith}
use Rattle.std.proofs.lemmas.Bool.{cases_Bool, false≢true}
use Rattle.std.specs.Prelude.{if◌then◌else◌, slice_get}
use Rattle.std.specs.Str.{bytes_eq}
use Rattle.sap_terms.specs.Choice.{Choice, instance}
use Rattle.sap_terms.specs.Tree.{Tree}
use Rattle.sap_terms.specs.Variables.{is_known}
use Rattle.sap_terms.proofs.PlainLaws.Lists.{drop_got}
use Rattle.sap_process.specs.Proc as whole
use Rattle.sap_process.specs.Proc.{Proc, node_count, level_count}
use Rattle.sap_macro.specs.Expansion.{Expanded, Meaning, Plain, by_names, entered, expanded, expansion, meaning_after, no_meaning, own_names, plain_after, plain_bodies, put, same_name, unchanged, where_none, with_definition, with_plain, with_uses}
use Rattle.sap_macro.specs.NewNames.{renamed, taken_after}
use Rattle.sap_macro.specs.Order.{AreInOrder, UsesOnly}
use Rattle.sap_macro.specs.Written.{Written, nil, call, parallel, replicated, act, test, lookup, Definition}
use Rattle.sap_macro.specs.code.Sizes.{deeper, plus, size_after, sized, with_size}
use Rattle.sap_macro.specs.Walked.{Cost}
use Rattle.sap_terms.proofs.PlainLaws.Known.{one_name, clash, not_in}
use Rattle.sap_macro.proofs.Resolving.{AreClosedUses, closed_more, expanded_agree, uses_known, with_body}

-- the size of a process as it runs
abbrev pub size_of : (ℕ → ℕ → ℕ) → Proc → ℕ
size_of j whole.nil = 1
size_of j (whole.parallel p q) = j (size_of j p) (size_of j q) + 1
size_of j (whole.replicated p) = size_of j p + 1
size_of j (whole.act a p) = size_of j p + 1
size_of j (whole.test t u p q) = j (size_of j p) (size_of j q) + 1
size_of j (whole.lookup t x p q) = j (size_of j p) (size_of j q) + 1

pub nodes_are : (p : Proc) → node_count p ≡ size_of plus p
nodes_are whole.nil = refl
nodes_are (whole.parallel p q) = λ i. nodes_are p i + nodes_are q i + 1
nodes_are (whole.replicated p) = ap (λ n. n + 1) (nodes_are p)
nodes_are (whole.act a p) = ap (λ n. n + 1) (nodes_are p)
nodes_are (whole.test t u p q) = λ i. nodes_are p i + nodes_are q i + 1
nodes_are (whole.lookup t x p q) = λ i. nodes_are p i + nodes_are q i + 1

pub levels_are : (p : Proc) → level_count p ≡ size_of deeper p
levels_are whole.nil = refl
levels_are (whole.parallel p q) = λ i. max (levels_are p i) (levels_are q i) + 1
levels_are (whole.replicated p) = ap (λ n. n + 1) (levels_are p)
levels_are (whole.act a p) = ap (λ n. n + 1) (levels_are p)
levels_are (whole.test t u p q) = λ i. max (levels_are p i) (levels_are q i) + 1
levels_are (whole.lookup t x p q) = λ i. max (levels_are p i) (levels_are q i) + 1

-- sizes are cut at the greatest number, and joining keeps that
abbrev cut : ℕ → ℕ
cut n = min n (2 ^ 64 - 1)

abbrev KeepsCut : (ℕ → ℕ → ℕ) → Type 0
KeepsCut j = (a b c d : ℕ) → cut a ≡ cut b → cut c ≡ cut d → cut (j a c + 1) ≡ cut (j b d + 1)

more_cut : (a b : ℕ) → cut a ≡ cut b → cut (a + 1) ≡ cut (b + 1)
more_cut a b e = omega (arith, e)

plus_keeps : KeepsCut plus
plus_keeps a b c d e f = omega (arith, e, f)

deeper_keeps : KeepsCut deeper
deeper_keeps a b c d e f = omega (arith, e, f)

cut_twice : (a : ℕ) → cut (cut a) ≡ cut a
cut_twice a = omega arith

module _ (j : ℕ → ℕ → ℕ) (keeps : KeepsCut j) where
  -- names mean processes of these sizes
  abbrev AreSized : Plain → Meaning → Cost → Type 0
  AreSized p m c = (f : List ℕ) (ts : List Tree) (r : Choice) (b : List ℕ → List ℕ) (taken : List (List ℕ)) → cut (size_of j (expanded m r b (p f ts) taken).process) ≡ cut (c f)

  sized_in : (p : Plain) (m : Meaning) (c : Cost) → AreSized p m c → (w : Written) (r : Choice) (b : List ℕ → List ℕ) (taken : List (List ℕ))
      → cut (size_of j (expanded m r b (with_uses p w) taken).process) ≡ cut (sized j c w)
  sized_in p m c h nil r b taken = refl
  sized_in p m c h (call f ts) r b taken = h f ts r b taken
  sized_in p m c h (parallel a o) r b taken = keeps _ _ _ _ (sized_in p m c h a r b taken) (sized_in p m c h o r b (expanded m r b (with_uses p a) taken).taken)
  sized_in p m c h (replicated a) r b taken = more_cut _ _ (sized_in p m c h a r b taken)
  sized_in p m c h (act x a) r b taken = more_cut _ _ (sized_in p m c h a r b taken)
  sized_in p m c h (test t u a o) r b taken = keeps _ _ _ _ (sized_in p m c h a r b taken) (sized_in p m c h o r b (expanded m r b (with_uses p a) taken).taken)
  sized_in p m c h (lookup t x a o) r b taken = keeps _ _ _ _ (sized_in p m c h a r b taken) (sized_in p m c h o r b (expanded m r b (with_uses p a) taken).taken)

  -- other names stay names
  abbrev AreOpen : List (List ℕ) → Plain → Type 0
  AreOpen known p = (f : List ℕ) (ts : List Tree) → is_known known f ≡ false → p f ts ≡ call f ts

  module _ (known : List (List ℕ)) (p : Plain) (m : Meaning) (c : Cost) (d : Definition) (fresh : is_known known d.name ≡ false) (only : UsesOnly known d.body)
      (closed : AreClosedUses known p) (free : AreOpen known p) (h : AreSized p m c) where
    abbrev later : Meaning
    later = with_definition m (with_body p d)

    -- known names mean what they meant
    same_known : (f : List ℕ) (ts : List Tree) (taken : List (List ℕ)) → is_known known f ≡ true → later f ts taken ≡ m f ts taken
    same_known f ts taken k =
        ⊎_elim (λ e. clash (is_known known f) k (sym (ap (is_known known) (one_name d.name f e)) ∙ fresh))
        (λ e. ap (λ z. if z then entered m (with_body p d) ts taken else m f ts taken) e) (cases_Bool (bytes_eq d.name f))

    same_in : (w : Written) → UsesOnly known w → (r : Choice) (b : List ℕ → List ℕ) (taken : List (List ℕ)) → expanded later r b w taken ≡ expanded m r b w taken
    same_in w o r b taken = expanded_agree known w later m o same_known r b taken

    abbrev SizeIs : Written → ℕ → Choice → (List ℕ → List ℕ) → List (List ℕ) → Type 0
    SizeIs w n r b taken = cut (size_of j (expanded later r b w taken).process) ≡ n

    -- the definition itself
    own_size : (xs : List (List ℕ)) (f : List ℕ) (ts : List Tree) (r : Choice) (b : List ℕ → List ℕ) (taken : List (List ℕ)) → bytes_eq d.name f ≡ true
        → SizeIs (where_none xs (with_uses p d.body) (call f ts)) (cut (sized j c d.body)) r b taken
    own_size [] f ts r b taken e =
        ap (λ (z : Expanded). cut (size_of j z.process)) (same_in (with_uses p d.body) (uses_known known known d.body p only closed) r b taken) ∙ sized_in p m c h d.body r b taken
    own_size (x ∷ xs) f ts r b taken e =
        let us = map (instance r) ts in
        let own = own_names (with_body p d) in
        ap (λ z. cut (size_of j (if z then entered m (with_body p d) us taken else m f us taken).process)) e
        ∙ sized_in p m c h d.body (put d.params us (by_names (renamed taken own))) (renamed taken own) (taken_after taken own)

    -- another name
    other_size : (f : List ℕ) (ts : List Tree) (r : Choice) (b : List ℕ → List ℕ) (taken : List (List ℕ)) → bytes_eq d.name f ≡ false → SizeIs (p f ts) (cut (c f)) r b taken
    other_size f ts r b taken e =
        ⊎_elim (λ k. ap (λ (z : Expanded). cut (size_of j z.process)) (same_in (p f ts) (closed f ts k) r b taken) ∙ h f ts r b taken)
        (λ k. let us = map (instance r) ts in
        ap (λ w. cut (size_of j (expanded later r b w taken).process)) (free f ts k)
        ∙ ap (λ z. cut (size_of j (if z then entered m (with_body p d) us taken else m f us taken).process)) e
        ∙ sym (ap (λ w. cut (size_of j (expanded m r b w taken).process)) (free f ts k)) ∙ h f ts r b taken)
        (cases_Bool (is_known known f))

    one_sized : AreSized (with_plain p d) later (with_size j c d)
    one_sized f ts r b taken =
        ⊎_elim
        (λ e. ap (λ z. cut (size_of j (expanded later r b (if z then where_none d.params (with_uses p d.body) (call f ts) else p f ts) taken).process)) e
        ∙ own_size d.params f ts r b taken e ∙ sym (cut_twice (sized j c d.body)) ∙ sym (ap (λ z. cut (if z then cut (sized j c d.body) else c f)) e))
        (λ e. ap (λ z. cut (size_of j (expanded later r b (if z then where_none d.params (with_uses p d.body) (call f ts) else p f ts) taken).process)) e
        ∙ other_size f ts r b taken e ∙ sym (ap (λ z. cut (if z then cut (sized j c d.body) else c f)) e))
        (cases_Bool (bytes_eq d.name f))

    still_open : AreOpen (d.name ∷ known) (with_plain p d)
    still_open f ts k =
        let apart_from = not_in f d.name known k in
        ap (λ z. if z then where_none d.params (with_uses p d.body) (call f ts) else p f ts) apart_from.0 ∙ free f ts apart_from.1

  all_sized : (ds : List Definition) (known : List (List ℕ)) (p : Plain) (m : Meaning) (c : Cost) → AreInOrder known ds → AreClosedUses known p → AreOpen known p → AreSized p m c
      → AreSized (plain_after p ds) (meaning_after m (plain_bodies p ds)) (size_after j c ds)
  all_sized [] known p m c o closed free h = h
  all_sized (d ∷ ds) known p m c o closed free h =
      all_sized ds (d.name ∷ known) (with_plain p d) (with_definition m (with_body p d)) (with_size j c d) o.1.1 (closed_more known p d o.1.0 closed)
      (still_open known p m c d o.0 o.1.0 closed free h) (one_sized known p m c d o.0 o.1.0 closed free h)

  expansion_sized : (ds : List Definition) (w : Written) (identifiers : List (List ℕ)) → AreInOrder [] ds
      → cut (size_of j (expansion ds identifiers w).process) ≡ cut (sized j (size_after j (λ f. 1) ds) w)
  expansion_sized ds w identifiers o =
      sized_in (plain_after call ds) (meaning_after no_meaning (plain_bodies call ds)) (size_after j (λ f. 1) ds)
      (all_sized ds [] call no_meaning (λ f. 1) o (λ f ts k. absurd (false≢true k)) (λ f ts k. refl) (λ f ts r b taken. refl)) w unchanged same_name identifiers

pub nodes_sized : (ds : List Definition) (w : Written) (identifiers : List (List ℕ)) → AreInOrder [] ds
    → min (sized plus (size_after plus (λ f. 1) ds) w) (2 ^ 64 - 1) ≡ min (node_count (expansion ds identifiers w).process) (2 ^ 64 - 1)
nodes_sized ds w identifiers o = sym (ap cut (nodes_are (expansion ds identifiers w).process) ∙ expansion_sized plus plus_keeps ds w identifiers o)

pub levels_sized : (ds : List Definition) (w : Written) (identifiers : List (List ℕ)) → AreInOrder [] ds
    → min (sized deeper (size_after deeper (λ f. 1) ds) w) (2 ^ 64 - 1) ≡ min (level_count (expansion ds identifiers w).process) (2 ^ 64 - 1)
levels_sized ds w identifiers o = sym (ap cut (levels_are (expansion ds identifiers w).process) ∙ expansion_sized deeper deeper_keeps ds w identifiers o)

-- ---- what is kept behind the first definitions

pub one_kept : (j : ℕ → ℕ → ℕ) (c old new : Cost) (ds : List Definition) (k : ℕ) (d : Definition) → slice_get ds k ≡ Some d → ((f : List ℕ) → c f ≡ size_after j old (drop k ds) f)
    → ((f : List ℕ) → new f ≡ with_size j old d f) → (f : List ℕ) → c f ≡ size_after j new (drop (k + 1) ds) f
one_kept j c old new ds k d is h same f =
    h f ∙ ap (λ xs. size_after j old xs f) (drop_got ds k d is) ∙ sym (λ i. size_after j (λ g. same g i) (drop (k + 1) ds) f)

-- ---- what is told

pub nodes_told : (ds : List Definition) (w : Written) (kept : Cost) (n : ℕ) → n ≡ min (sized plus kept w) (2 ^ 64 - 1) → ((f : List ℕ) → kept f ≡ size_after plus (λ g. 1) ds f) → AreInOrder [] ds
    → (identifiers : List (List ℕ)) → n ≡ min (node_count (expansion ds identifiers w).process) (2 ^ 64 - 1)
nodes_told ds w kept n is same o identifiers =
    is ∙ (λ i. min (sized plus (λ f. same f i) w) (2 ^ 64 - 1)) ∙ nodes_sized ds w identifiers o

pub levels_told : (ds : List Definition) (w : Written) (kept : Cost) (n : ℕ) → n ≡ min (sized deeper kept w) (2 ^ 64 - 1) → ((f : List ℕ) → kept f ≡ size_after deeper (λ g. 1) ds f) → AreInOrder [] ds
    → (identifiers : List (List ℕ)) → n ≡ min (level_count (expansion ds identifiers w).process) (2 ^ 64 - 1)
levels_told ds w kept n is same o identifiers =
    is ∙ (λ i. min (sized deeper (λ f. same f i) w) (2 ^ 64 - 1)) ∙ levels_sized ds w identifiers o

-- ---- what is told of a use

-- what is kept is cut
kept_cut : (j : ℕ → ℕ → ℕ) (ds : List Definition) (c : Cost) → ((f : List ℕ) → c f ≡ cut (c f)) → (f : List ℕ) → size_after j c ds f ≡ cut (size_after j c ds f)
kept_cut j [] c h f = h f
kept_cut j (d ∷ ds) c h f = kept_cut j ds (with_size j c d) (λ g. one g (bytes_eq d.name g)) f
  where
    one : (g : List ℕ) (b : Bool) → (if b then cut (sized j c d.body) else c g) ≡ cut (if b then cut (sized j c d.body) else c g)
    one g true = sym (cut_twice (sized j c d.body))
    one g false = h g

pub nodes_of_use : (ds : List Definition) (f : List ℕ) (ts : List Tree) (kept : Cost) → ((g : List ℕ) → kept g ≡ size_after plus (λ h. 1) ds g) → AreInOrder [] ds
    → (identifiers : List (List ℕ)) → kept f ≡ min (node_count (expansion ds identifiers (call f ts)).process) (2 ^ 64 - 1)
nodes_of_use ds f ts kept same o identifiers =
    same f ∙ kept_cut plus ds (λ g. 1) (λ g. refl) f ∙ nodes_sized ds (call f ts) identifiers o

pub levels_of_use : (ds : List Definition) (f : List ℕ) (ts : List Tree) (kept : Cost) → ((g : List ℕ) → kept g ≡ size_after deeper (λ h. 1) ds g) → AreInOrder [] ds
    → (identifiers : List (List ℕ)) → kept f ≡ min (level_count (expansion ds identifiers (call f ts)).process) (2 ^ 64 - 1)
levels_of_use ds f ts kept same o identifiers =
    same f ∙ kept_cut deeper ds (λ g. 1) (λ g. refl) f ∙ levels_sized ds (call f ts) identifiers o
