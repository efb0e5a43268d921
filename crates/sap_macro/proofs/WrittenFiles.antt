-- Traces that small files have as they are written.
use Rattle.std.proofs.Common.{◌≡◌, ℕ, zero, suc, List, [], ◌∷◌, ◌++◌, Option, Some, None, Bool, false, true, slice_get, refl, ap, arith}
use Rattle.std.specs.Prelude.{codes, map, slice_index_or}
use Rattle.std.specs.Str.{bytes_eq}
use Rattle.sap_rewrite.specs.Laws.{FormIsOne}
use Rattle.sap_terms.specs.AdversaryFacts.{k_fact}
use Rattle.sap_terms.specs.Choice.{Choice}
use Rattle.sap_terms.specs.Deduce.{a_public, a_name, applied}
use Rattle.sap_terms.specs.Equal.{IsTheoryEqual, same}
use Rattle.sap_terms.specs.Equations.{Equations, equations, IsDestructor, IsInstance, first, second, symmetric, asymmetric, signing, revealing, revealed, pair_name}
use Rattle.sap_terms.specs.Laws.{LeavesAreNormal}
use Rattle.sap_terms.specs.Message.{IsMessage, IsMessageChoice}
use Rattle.sap_terms.specs.Modulo.{IsFormOfFact}
use Rattle.sap_terms.specs.Normal.{IsNormal, IsNormalForm}
use Rattle.sap_terms.specs.Same.{same_tree}
use Rattle.sap_terms.specs.Signature.{Sig, pairs_alone}
use Rattle.sap_terms.specs.Tree.{Tree, public, fresh, apply, none, more}
use Rattle.sap_terms.specs.declared.var.Sort.{Sort}
use Rattle.sap_terms.specs.declared.var.Sort.TheVariants.{Msg, Fresh, Pub}
use Rattle.sap_process.specs.Action.{new, input, event, insert, lock, unlock}
use Rattle.sap_process.specs.Configuration.{ConfigOf, CanGive, initial, marked, stored}
use Rattle.sap_process.specs.Head as head
use Rattle.sap_process.specs.Head.{Head}
use Rattle.sap_process.specs.ProcessSteps.{ProcessStep, splits, copies, makes_name, inputs, differs, shows, inserts, locks, unlocks, adversary_makes, starts, further}
use Rattle.sap_macro.specs.Expansion.{plain_bodies}
use Rattle.sap_macro.specs.ExpansionExamples.{using_plain, a, b, of_name, fresh_of, taking}
use Rattle.sap_macro.specs.NameExamples.{both}
use Rattle.sap_macro.specs.SortedExamples.{using_b}
use Rattle.sap_macro.specs.UpToNames.{named}
use Rattle.sap_macro.specs.Written.{Written, nil, call, Definition}
use Rattle.sap_macro.specs.WrittenExamples.{telling_x, use_twin, told, told_both, new_at, got_at, same_one, two_apart, put_at, showing, using_a, using_put, use_a, naming_x, use_named, naming_z, naming_often, taking_twice, taking_other, use_taken, testing, use_testing, telling, telling_y, use_plain, unlocking, telling_put, inserting, putting, x_name, two_puts, use_store}
use Rattle.sap_macro.specs.WrittenRuns.{StartsWith, itself, use_of, StandsAs, writing, sorted_definition, IsFileTrace}
use Rattle.sap_terms.proofs.PlainLaws.Items.{first_item, later_item, none_contained, item_cases}

-- a file's definitions as they run
abbrev pub running : List Definition → List Definition
running ds = map sorted_definition (plain_bodies call ds)

-- the only thread
only : (ds : List Definition) (p : Written) (h : Head Written) → StartsWith ds p h → StandsAs ds (Some p ∷ []) 0 h
only ds p h s = record { process = p; runs = refl; head = s }

-- one definition, and a use of it
use_first : (d : Definition) (ds : List Definition) (ts : List Tree) (h : Head Written) → StartsWith (d ∷ ds) (Rattle.sap_macro.specs.Instances.instance_by d ts) h
    → StartsWith (d ∷ ds) (call d.name ts) h
use_first d ds ts h s = use_of d (first_item d ds) s

-- each variable stands for a name: one that fits for a fresh one
abbrev chosen_for : Tree → ℕ → Sort → Tree
chosen_for t k Msg = t
chosen_for t k Fresh = fresh k
chosen_for t k Pub = a

abbrev choosing : Tree → ℕ → Choice
choosing t k v = chosen_for t k v.sort

module _ (normal : LeavesAreNormal) where
  pub public_form : (g : Sig) (n : List ℕ) → IsNormalForm (equations g) (public n) (public n)
  public_form g n = record { equal = same; normal = normal.of_public_name (equations g) n }

  pub fresh_form : (g : Sig) (k : ℕ) → IsNormalForm (equations g) (fresh k) (fresh k)
  fresh_form g k = record { equal = same; normal = normal.of_fresh_name (equations g) k }

  fits_all : (g : Sig) (n : List ℕ) (k : ℕ) (s : Sort) → IsMessage g s (chosen_for (public n) k s)
  fits_all g n k Msg = record { ground = tt; over = tt; normal = normal.of_public_name (equations g) n; sorted = refl }
  fits_all g n k Fresh = record { ground = tt; over = tt; normal = normal.of_fresh_name (equations g) k; sorted = refl }
  fits_all g n k Pub = record { ground = tt; over = tt; normal = normal.of_public_name (equations g) (codes "a"); sorted = refl }

  choosing_messages : (g : Sig) (n : List ℕ) (k : ℕ) → IsMessageChoice g (choosing (public n) k)
  choosing_messages g n k v = fits_all g n k v.sort

  gives_public : {ds : List Definition} (g : Sig) (c : ConfigOf (writing ds)) (n : List ℕ) → CanGive g c (public n)
  gives_public g c n = record {
    deducible = record { form = public n; is_form = public_form g n; earlier = []; derivation = (a_public n refl, tt) };
    normal = normal.of_public_name (equations g) n;
  }

  -- ---- let A(x) = new ~n; event E(x,~n); new ~n; A(~n)

  module _ (g : Sig) where
    abbrev with_names : List ℕ → Written → ConfigOf (writing (running (naming_x ∷ [])))
    with_names ms p = record (initial p) { made = ms }

    first_name : ProcessStep g (with_names [] use_named) [] (with_names (0 ∷ []) (using_a (fresh 0)))
    first_name =
        makes_name 0 0 (only (running (naming_x ∷ [])) use_named (head.act (new (named (codes "n") Fresh)) (using_a (fresh_of (codes "n"))))
        (itself (head.act (new (named (codes "n") Fresh)) (using_a (fresh_of (codes "n")))))) (none_contained, none_contained)

    second_name : ProcessStep g (with_names (0 ∷ []) (using_a (fresh 0))) [] (with_names (0 ∷ 1 ∷ []) (showing (told_both (fresh 0) (fresh 1))))
    second_name =
        makes_name 0 1 (only (running (naming_x ∷ [])) (using_a (fresh 0)) (head.act (new (named (codes "n") Fresh)) (showing (told_both (fresh 0) (fresh_of (codes "n")))))
        (use_of (sorted_definition naming_x) (first_item (sorted_definition naming_x) [])
        (itself (head.act (new (named (codes "n") Fresh)) (showing (told_both (fresh 0) (fresh_of (codes "n"))))))))
        (λ h. other 0 1 refl (item_cases 0 1 h), none_contained)
      where
        other : (m n : ℕ) → n ≡ suc m → m ≡ n → ⊥
        other m n e h = omega (arith, e, h)

    named_event : ProcessStep g (with_names (0 ∷ 1 ∷ []) (showing (told_both (fresh 0) (fresh 1)))) (told_both (fresh 0) (fresh 1) ∷ []) (with_names (0 ∷ 1 ∷ []) nil)
    named_event =
        shows 0 (only (running (naming_x ∷ [])) (showing (told_both (fresh 0) (fresh 1))) (head.act (event (told_both (fresh 0) (fresh 1))) nil)
        (itself (head.act (event (told_both (fresh 0) (fresh 1))) nil)))
        (record { name = refl; persistent = refl; args = (fresh_form g 0, (fresh_form g 1, tt)) })

    pub new_names : IsFileTrace g (naming_x ∷ []) use_named ((told_both (fresh 0) (fresh 1) ∷ []) ∷ [])
    new_names = (with_names (0 ∷ 1 ∷ []) nil, further (further (further starts first_name) second_name) named_event)

-- thread t is this, and starts with that
stood : {ds : List Definition} {os : List (Option Written)} (t : ℕ) (p : Written) (h : Head Written) → slice_get os t ≡ Some (Some p) → StartsWith ds p h → StandsAs ds os t h
stood t p h r s = record { process = p; runs = r; head = s }

other_number : (m n : ℕ) → n ≡ suc m → m ≡ n → ⊥
other_number m n e h = omega (arith, e, h)

is_b : Tree → Bool
is_b t = same_tree t b

not_b : a ≡ b → ⊥
unfolding is_b
not_b e = let p : false ≡ true = ap is_b e in cc

module _ (normal : LeavesAreNormal) (g : Sig) where
  -- ---- let B(z) = new ~n; event N(z,~n); let A(x) = ! B(x); A('a')

  abbrev naming : List Definition
  naming = running (naming_z ∷ naming_often ∷ [])

  abbrev copied : List ℕ → List (Option Written) → ConfigOf (writing naming)
  copied ms os = record (initial use_a) { made = ms; threads = Some use_a ∷ os }

  naming_at : (n : ℕ) → Written
  naming_at n = showing (new_at a (fresh n))

  copy_of_use : (os : List (Option Written)) → ProcessStep g (copied [] os) [] (copied [] (os ++ Some (using_b a) ∷ []))
  copy_of_use os =
      copies 0 (stood 0 use_a (head.replicated (using_b a)) refl
      (use_of (sorted_definition naming_often) (later_item (sorted_definition naming_z) (sorted_definition naming_often ∷ []) (sorted_definition naming_often) (first_item (sorted_definition naming_often) []))
      (itself (head.replicated (using_b a)))))

  b_starts : StartsWith naming (using_b a) (head.act (new (named (codes "n") Fresh)) (showing (new_at a (fresh_of (codes "n")))))
  b_starts = use_of (sorted_definition naming_z) (first_item (sorted_definition naming_z) (sorted_definition naming_often ∷ [])) (itself (head.act (new (named (codes "n") Fresh)) (showing (new_at a (fresh_of (codes "n"))))))

  shown_form : (t u : Tree) (n : List ℕ) → IsNormalForm (equations g) t t → IsNormalForm (equations g) u u
      → IsFormOfFact (equations g) (record { name = n; persistent = false; args = t ∷ u ∷ [] }) (record { name = n; persistent = false; args = t ∷ u ∷ [] })
  shown_form t u n h k = record { name = refl; persistent = refl; args = (h, (k, tt)) }

  first_made : ProcessStep g (copied [] (Some (using_b a) ∷ Some (using_b a) ∷ [])) [] (copied (0 ∷ []) (Some (showing (new_at a (fresh 0))) ∷ Some (using_b a) ∷ []))
  first_made = makes_name 1 0 (stood 1 (using_b a) (head.act (new (named (codes "n") Fresh)) (showing (new_at a (fresh_of (codes "n"))))) refl b_starts) (none_contained, none_contained)

  first_told : ProcessStep g (copied (0 ∷ []) (Some (showing (new_at a (fresh 0))) ∷ Some (using_b a) ∷ [])) (new_at a (fresh 0) ∷ []) (copied (0 ∷ []) (Some nil ∷ Some (using_b a) ∷ []))
  first_told =
      shows 1 (stood 1 (showing (new_at a (fresh 0))) (head.act (event (new_at a (fresh 0))) nil) refl (itself (head.act (event (new_at a (fresh 0))) nil)))
      (shown_form a (fresh 0) (codes "N") (public_form normal g (codes "a")) (fresh_form normal g 0))

  second_made : ProcessStep g (copied (0 ∷ []) (Some nil ∷ Some (using_b a) ∷ [])) [] (copied (0 ∷ 1 ∷ []) (Some nil ∷ Some (showing (new_at a (fresh 1))) ∷ []))
  second_made =
      makes_name 2 1 (stood 2 (using_b a) (head.act (new (named (codes "n") Fresh)) (showing (new_at a (fresh_of (codes "n"))))) refl b_starts)
      (λ h. other_number 0 1 refl (item_cases 0 1 h), none_contained)

  second_told : ProcessStep g (copied (0 ∷ 1 ∷ []) (Some nil ∷ Some (showing (new_at a (fresh 1))) ∷ [])) (new_at a (fresh 1) ∷ []) (copied (0 ∷ 1 ∷ []) (Some nil ∷ Some nil ∷ []))
  second_told =
      shows 2 (stood 2 (showing (new_at a (fresh 1))) (head.act (event (new_at a (fresh 1))) nil) refl (itself (head.act (event (new_at a (fresh 1))) nil)))
      (shown_form a (fresh 1) (codes "N") (public_form normal g (codes "a")) (fresh_form normal g 1))

  pub each_copy : IsFileTrace g (naming_z ∷ naming_often ∷ []) use_a ((new_at a (fresh 0) ∷ []) ∷ (new_at a (fresh 1) ∷ []) ∷ [])
  each_copy = (
    copied (0 ∷ 1 ∷ []) (Some nil ∷ Some nil ∷ []),
    further (further (further (further (further (further starts (copy_of_use [])) (copy_of_use (Some (using_b a) ∷ []))) first_made) first_told) second_made) second_told,
  )

  -- ---- let A(x,y) = if x = y then event Same(x) else event Apart(x,y); A('a','b')

  module _ (unique : FormIsOne) where
    pub apart_names : IsTheoryEqual (equations g) a b → ⊥
    apart_names h = not_b (unique (equations g) a a b (public_form normal g (codes "a")) (record { equal = h; normal = normal.of_public_name (equations g) (codes "b") }))

    goes_apart : ProcessStep g {kind = writing (running (testing ∷ []))} (initial use_testing) [] (initial (showing (two_apart a b)))
    goes_apart =
        differs 0 (stood 0 use_testing (head.test a b (showing (same_one a)) (showing (two_apart a b))) refl
        (use_of (sorted_definition testing) (first_item (sorted_definition testing) []) (itself (head.test a b (showing (same_one a)) (showing (two_apart a b))))))
        apart_names

    told_apart : ProcessStep g {kind = writing (running (testing ∷ []))} (initial (showing (two_apart a b))) (two_apart a b ∷ []) (initial nil)
    told_apart =
        shows 0 (stood 0 (showing (two_apart a b)) (head.act (event (two_apart a b)) nil) refl (itself (head.act (event (two_apart a b)) nil)))
        (shown_form a b (codes "Apart") (public_form normal g (codes "a")) (public_form normal g (codes "b")))

    pub apart : IsFileTrace g (testing ∷ []) use_testing ((two_apart a b ∷ []) ∷ [])
    apart = (initial nil, further (further starts goes_apart) told_apart)

  -- ---- let C = event E(y); in(y); C

  abbrev plain_told : List Definition
  plain_told = running (telling_y ∷ [])

  gets_y : ProcessStep g {kind = writing plain_told} (initial (taking (of_name (codes "y")) (telling (of_name (codes "y"))))) (k_fact a ∷ []) (initial (telling a))
  gets_y =
      inputs 0 (choosing a 0)
      (stood 0 (taking (of_name (codes "y")) (telling (of_name (codes "y")))) (head.act (input (of_name (codes "y"))) (telling (of_name (codes "y")))) refl
      (itself (head.act (input (of_name (codes "y"))) (telling (of_name (codes "y"))))))
      (gives_public normal g (initial (taking (of_name (codes "y")) (telling (of_name (codes "y"))))) (codes "a"))
      (record { messages = choosing_messages normal g (codes "a") 0; equal = same })

  tells_y : ProcessStep g {kind = writing plain_told} (initial (telling a)) (told a ∷ []) (initial nil)
  tells_y =
      shows 0 (stood 0 (telling a) (head.act (event (told a)) nil) refl (itself (head.act (event (told a)) nil)))
      (record { name = refl; persistent = refl; args = (public_form normal g (codes "a"), tt) })

  pub plain_name : IsFileTrace g (telling_y ∷ []) use_plain ((k_fact a ∷ []) ∷ (told a ∷ []) ∷ [])
  plain_name = (initial nil, further (further starts gets_y) tells_y)

  -- ---- let C = event E(y); let A(y) = C; A('a')

  abbrev plain_below : List Definition
  plain_below = running (telling_y ∷ using_plain ∷ [])

  -- let A(y) = event E(y)
  abbrev told_y : Definition
  told_y = record using_plain { body = telling (of_name (codes "y")) }

  tells_below : ProcessStep g {kind = writing plain_below} (initial use_a) (told a ∷ []) (initial nil)
  tells_below =
      shows 0 (stood 0 use_a (head.act (event (told a)) nil) refl
      (use_of told_y (later_item telling_y (told_y ∷ []) told_y (first_item told_y [])) (itself (head.act (event (told a)) nil))))
      (record { name = refl; persistent = refl; args = (public_form normal g (codes "a"), tt) })

  pub plain_body : IsFileTrace g (telling_y ∷ using_plain ∷ []) use_a ((told a ∷ []) ∷ [])
  plain_body = (initial nil, further starts tells_below)

  -- ---- let Put(key,value) = lock key; insert key, value; event Put(key,value); unlock key; new ~n; ( Put('a',~n) | Put('b','x') )

  abbrev puts : List Definition
  puts = running (putting ∷ [])

  -- with these names made, this stored and this held, these two run
  abbrev store_of : List ℕ → (Tree → Option Tree) → (Tree → Bool) → List (Option Written) → ConfigOf (writing puts)
  store_of ms s l os = record (initial nil) { made = ms; store = s; held = l; threads = os }

  abbrev nothing_stored : Tree → Option Tree
  nothing_stored t = None

  abbrev nothing_held : Tree → Bool
  nothing_held t = false

  -- ~0 is made, and two threads run
  abbrev storing : (Tree → Option Tree) → (Tree → Bool) → Written → Written → ConfigOf (writing puts)
  storing s l p q = store_of (0 ∷ []) s l (Some p ∷ Some q ∷ [])

  -- the store and what is held behind each insertion, lock and unlock
  abbrev stored_a : Tree → Option Tree
  stored_a = stored nothing_stored a (Some (fresh 0))

  abbrev stored_b : Tree → Option Tree
  stored_b = stored stored_a b (Some x_name)

  abbrev held_a : Tree → Bool
  held_a = marked nothing_held a true

  abbrev left_a : Tree → Bool
  left_a = marked held_a a false

  abbrev held_b : Tree → Bool
  held_b = marked left_a b true

  abbrev left_b : Tree → Bool
  left_b = marked held_b b false

  put_starts : (t u : Tree) → StartsWith puts (using_put t u) (head.act (lock t 0) (inserting t u))
  put_starts t u = use_of (sorted_definition putting) (first_item (sorted_definition putting) []) (itself (head.act (lock t 0) (inserting t u)))

  value_made : ProcessStep g (store_of [] nothing_stored nothing_held (Some use_store ∷ [])) [] (store_of (0 ∷ []) nothing_stored nothing_held (Some (two_puts (fresh 0)) ∷ []))
  value_made =
      makes_name 0 0 (stood 0 use_store (head.act (new (named (codes "n") Fresh)) (two_puts (fresh_of (codes "n")))) refl
      (itself (head.act (new (named (codes "n") Fresh)) (two_puts (fresh_of (codes "n")))))) (none_contained, none_contained)

  both_run : ProcessStep g (store_of (0 ∷ []) nothing_stored nothing_held (Some (two_puts (fresh 0)) ∷ [])) []
      (storing nothing_stored nothing_held (using_put a (fresh 0)) (using_put b x_name))
  both_run =
      splits 0 (stood 0 (two_puts (fresh 0)) (head.parallel (using_put a (fresh 0)) (using_put b x_name)) refl (itself (head.parallel (using_put a (fresh 0)) (using_put b x_name))))

  first_locked : ProcessStep g (storing nothing_stored nothing_held (using_put a (fresh 0)) (using_put b x_name)) []
      (storing nothing_stored held_a (inserting a (fresh 0)) (using_put b x_name))
  first_locked =
      locks 0 (stood 0 (using_put a (fresh 0)) (head.act (lock a 0) (inserting a (fresh 0))) refl (put_starts a (fresh 0))) (public_form normal g (codes "a")) refl

  first_put : ProcessStep g (storing nothing_stored held_a (inserting a (fresh 0)) (using_put b x_name)) [] (storing stored_a held_a (telling_put a (fresh 0)) (using_put b x_name))
  first_put =
      inserts 0 (stood 0 (inserting a (fresh 0)) (head.act (insert a (fresh 0)) (telling_put a (fresh 0))) refl (itself (head.act (insert a (fresh 0)) (telling_put a (fresh 0)))))
      (public_form normal g (codes "a")) (fresh_form normal g 0)

  first_shown : ProcessStep g (storing stored_a held_a (telling_put a (fresh 0)) (using_put b x_name)) (put_at a (fresh 0) ∷ []) (storing stored_a held_a (unlocking a) (using_put b x_name))
  first_shown =
      shows 0 (stood 0 (telling_put a (fresh 0)) (head.act (event (put_at a (fresh 0))) (unlocking a)) refl (itself (head.act (event (put_at a (fresh 0))) (unlocking a))))
      (shown_form a (fresh 0) (codes "Put") (public_form normal g (codes "a")) (fresh_form normal g 0))

  first_unlocked : ProcessStep g (storing stored_a held_a (unlocking a) (using_put b x_name)) [] (storing stored_a left_a nil (using_put b x_name))
  first_unlocked = unlocks 0 (stood 0 (unlocking a) (head.act (unlock a 0) nil) refl (itself (head.act (unlock a 0) nil))) (public_form normal g (codes "a"))

  second_locked : ProcessStep g (storing stored_a left_a nil (using_put b x_name)) [] (storing stored_a held_b nil (inserting b x_name))
  second_locked =
      locks 1 (stood 1 (using_put b x_name) (head.act (lock b 0) (inserting b x_name)) refl (put_starts b x_name)) (public_form normal g (codes "b")) refl

  second_put : ProcessStep g (storing stored_a held_b nil (inserting b x_name)) [] (storing stored_b held_b nil (telling_put b x_name))
  second_put =
      inserts 1 (stood 1 (inserting b x_name) (head.act (insert b x_name) (telling_put b x_name)) refl (itself (head.act (insert b x_name) (telling_put b x_name))))
      (public_form normal g (codes "b")) (public_form normal g (codes "x"))

  second_shown : ProcessStep g (storing stored_b held_b nil (telling_put b x_name)) (put_at b x_name ∷ []) (storing stored_b held_b nil (unlocking b))
  second_shown =
      shows 1 (stood 1 (telling_put b x_name) (head.act (event (put_at b x_name)) (unlocking b)) refl (itself (head.act (event (put_at b x_name)) (unlocking b))))
      (shown_form b x_name (codes "Put") (public_form normal g (codes "b")) (public_form normal g (codes "x")))

  second_unlocked : ProcessStep g (storing stored_b held_b nil (unlocking b)) [] (storing stored_b left_b nil nil)
  second_unlocked = unlocks 1 (stood 1 (unlocking b) (head.act (unlock b 0) nil) refl (itself (head.act (unlock b 0) nil))) (public_form normal g (codes "b"))

  pub store : IsFileTrace g (putting ∷ []) use_store ((put_at a (fresh 0) ∷ []) ∷ (put_at b x_name ∷ []) ∷ [])
  store = (
    storing stored_b left_b nil nil,
    further
        (further (further (further (further (further (further (further (further (further starts value_made) both_run) first_locked) first_put) first_shown) first_unlocked) second_locked) second_put)
        second_shown)
        second_unlocked,
  )

-- ---- what the adversary makes

either : (t u : Tree) (k : ℕ) (d : Tree) → slice_index_or (t ∷ u ∷ []) k (slice_index_or (t ∷ u ∷ []) k d) ≡ slice_index_or (t ∷ u ∷ []) k d
either t u zero d = refl
either t u (suc zero) d = refl
either t u (suc (suc k)) d = refl

-- the symbol at the root is that of pairs
heads_pair : Tree → Bool
heads_pair (apply f ts) = bytes_eq f pair_name
heads_pair t = false

no_left_pair : (e : Equations) (t r : Tree) → IsInstance e t r → heads_pair t ≡ false
unfolding heads_pair
no_left_pair e t r first = refl
no_left_pair e t r second = refl
no_left_pair e t r (symmetric s) = refl
no_left_pair e t r (asymmetric s) = refl
no_left_pair e t r (signing s) = refl
no_left_pair e t r (revealing s) = refl
no_left_pair e t r (revealed s) = refl

no_destructor : (e : Equations) → ¬ IsDestructor e pair_name
unfolding heads_pair
no_destructor e d = let p = no_left_pair e (apply pair_name d.args) d.right d.is_left in cc

module _ (normal : LeavesAreNormal) where
  abbrev pairs : Equations
  pairs = equations pairs_alone

  pair_form : (t u : Tree) → IsNormal pairs t → IsNormal pairs u → IsNormalForm pairs (both t u) (both t u)
  pair_form t u h k = record { equal = same; normal = normal.of_symbol pairs pair_name (more t (more u none)) (no_destructor pairs) (h, (k, tt)) }

  -- ---- let A(k) = in(<~x,x>); event Got(x,k); A('a')

  abbrev takes_twice : List Definition
  takes_twice = running (taking_twice ∷ [])

  abbrev owned : {ds : List Definition} → List ℕ → Written → ConfigOf (writing ds)
  owned ns p = record (initial p) { own = ns }

  abbrev owning : List ℕ → Written → ConfigOf (writing takes_twice)
  owning ns p = owned ns p

  own_name : ProcessStep pairs_alone (owning [] use_a) [] (owning (1 ∷ []) use_a)
  own_name = adversary_makes 1 (none_contained, none_contained)

  gives_twice : {ds : List Definition} (p : Written) → CanGive pairs_alone {k = writing ds} (owned (1 ∷ []) p) (both (fresh 1) (fresh 1))
  gives_twice p =
      let form = pair_form (fresh 1) (fresh 1) (normal.of_fresh_name pairs 1) (normal.of_fresh_name pairs 1) in
      record {
        deducible = record {
          form = both (fresh 1) (fresh 1);
          is_form = form;
          earlier = fresh 1 ∷ fresh 1 ∷ [];
          derivation = (
            applied pair_name (fresh 1 ∷ fresh 1 ∷ []) refl refl (λ k d h. (k, h, either (fresh 1) (fresh 1) k d)) form,
            (a_name 1 (first_item 1 []) refl, (a_name 1 (first_item 1 []) refl, tt)),
          );
        };
        normal = form.normal;
      }

  gets_twice : ProcessStep pairs_alone (owning (1 ∷ []) use_a) (k_fact (both (fresh 1) (fresh 1)) ∷ []) (owning (1 ∷ []) (showing (got_at (fresh 1) a)))
  gets_twice =
      inputs 0 (choosing a 1)
      (stood 0 use_a (head.act (input (both (fresh_of (codes "x")) (fresh_of (codes "x")))) (showing (got_at (fresh_of (codes "x")) a))) refl
      (use_of (sorted_definition taking_twice) (first_item (sorted_definition taking_twice) [])
      (itself (head.act (input (both (fresh_of (codes "x")) (fresh_of (codes "x")))) (showing (got_at (fresh_of (codes "x")) a))))))
      (gives_twice use_a) (record { messages = choosing_messages normal pairs_alone (codes "a") 1; equal = same })

  tells_got : ProcessStep pairs_alone (owning (1 ∷ []) (showing (got_at (fresh 1) a))) (got_at (fresh 1) a ∷ []) (owning (1 ∷ []) nil)
  tells_got =
      shows 0 (stood 0 (showing (got_at (fresh 1) a)) (head.act (event (got_at (fresh 1) a)) nil) refl (itself (head.act (event (got_at (fresh 1) a)) nil)))
      (shown_form normal pairs_alone (fresh 1) a (codes "Got") (fresh_form normal pairs_alone 1) (public_form normal pairs_alone (codes "a")))

  pub one_sort : IsFileTrace pairs_alone (taking_twice ∷ []) use_a ((k_fact (both (fresh 1) (fresh 1)) ∷ []) ∷ (got_at (fresh 1) a ∷ []) ∷ [])
  one_sort = (owning (1 ∷ []) nil, further (further (further starts own_name) gets_twice) tells_got)

  -- ---- let A(x) = in(<y,x>); event E(x,y); in(y); A(y)

  abbrev takes_other : List Definition
  takes_other = running (taking_other ∷ [])

  takes_y : ProcessStep pairs_alone {kind = writing takes_other} (initial use_taken) (k_fact a ∷ []) (initial use_a)
  takes_y =
      inputs 0 (choosing a 0)
      (stood 0 use_taken (head.act (input (of_name (codes "y"))) (using_a (of_name (codes "y")))) refl (itself (head.act (input (of_name (codes "y"))) (using_a (of_name (codes "y"))))))
      (gives_public normal pairs_alone (initial use_taken) (codes "a"))
      (record { messages = choosing_messages normal pairs_alone (codes "a") 0; equal = same })

  gives_other : CanGive pairs_alone {k = writing takes_other} (initial use_a) (both b a)
  gives_other =
      let form = pair_form b a (normal.of_public_name pairs (codes "b")) (normal.of_public_name pairs (codes "a")) in
      record {
        deducible = record {
          form = both b a;
          is_form = form;
          earlier = b ∷ a ∷ [];
          derivation = (
            applied pair_name (b ∷ a ∷ []) refl refl (λ k d h. (k, h, either b a k d)) form,
            (a_public (codes "b") refl, (a_public (codes "a") refl, tt)),
          );
        };
        normal = form.normal;
      }

  gets_other : ProcessStep pairs_alone {kind = writing takes_other} (initial use_a) (k_fact (both b a) ∷ []) (initial (showing (told_both a b)))
  gets_other =
      inputs 0 (choosing b 0)
      (stood 0 use_a (head.act (input (both (of_name (codes "y")) a)) (showing (told_both a (of_name (codes "y"))))) refl
      (use_of (sorted_definition taking_other) (first_item (sorted_definition taking_other) [])
      (itself (head.act (input (both (of_name (codes "y")) a)) (showing (told_both a (of_name (codes "y"))))))))
      gives_other (record { messages = choosing_messages normal pairs_alone (codes "b") 0; equal = same })

  tells_other : ProcessStep pairs_alone {kind = writing takes_other} (initial (showing (told_both a b))) (told_both a b ∷ []) (initial nil)
  tells_other =
      shows 0 (stood 0 (showing (told_both a b)) (head.act (event (told_both a b)) nil) refl (itself (head.act (event (told_both a b)) nil)))
      (shown_form normal pairs_alone a b (codes "E") (public_form normal pairs_alone (codes "a")) (public_form normal pairs_alone (codes "b")))

  pub own_binder : IsFileTrace pairs_alone (taking_other ∷ []) use_taken ((k_fact a ∷ []) ∷ (k_fact (both b a) ∷ []) ∷ (told_both a b ∷ []) ∷ [])
  own_binder = (initial nil, further (further (further starts takes_y) gets_other) tells_other)

  -- ---- let A(x) = event E(x); in(<~x,x>); A(x)

  abbrev tells_x : List Definition
  tells_x = running (telling_x ∷ [])

  -- in(<~x,~x>); A(~x)
  abbrev twin_sorted : Written
  twin_sorted = taking (both (fresh_of (codes "x")) (fresh_of (codes "x"))) (using_a (fresh_of (codes "x")))

  own_before : ProcessStep pairs_alone {kind = writing tells_x} (initial twin_sorted) [] (owned (1 ∷ []) twin_sorted)
  own_before = adversary_makes 1 (none_contained, none_contained)

  gets_before : ProcessStep pairs_alone {kind = writing tells_x} (owned (1 ∷ []) twin_sorted) (k_fact (both (fresh 1) (fresh 1)) ∷ []) (owned (1 ∷ []) (using_a (fresh 1)))
  gets_before =
      inputs 0 (choosing a 1)
      (stood 0 twin_sorted (head.act (input (both (fresh_of (codes "x")) (fresh_of (codes "x")))) (using_a (fresh_of (codes "x")))) refl
      (itself (head.act (input (both (fresh_of (codes "x")) (fresh_of (codes "x")))) (using_a (fresh_of (codes "x"))))))
      (gives_twice twin_sorted) (record { messages = choosing_messages normal pairs_alone (codes "a") 1; equal = same })

  tells_fresh : ProcessStep pairs_alone {kind = writing tells_x} (owned (1 ∷ []) (using_a (fresh 1))) (told (fresh 1) ∷ []) (owned (1 ∷ []) nil)
  tells_fresh =
      shows 0 (stood 0 (using_a (fresh 1)) (head.act (event (told (fresh 1))) nil) refl
      (use_of (sorted_definition telling_x) (first_item (sorted_definition telling_x) []) (itself (head.act (event (told (fresh 1))) nil))))
      (record { name = refl; persistent = refl; args = (fresh_form normal pairs_alone 1, tt) })

  pub sort_above : IsFileTrace pairs_alone (telling_x ∷ []) use_twin ((k_fact (both (fresh 1) (fresh 1)) ∷ []) ∷ (told (fresh 1) ∷ []) ∷ [])
  sort_above = (owned (1 ∷ []) nil, further (further (further starts own_before) gets_before) tells_fresh)
