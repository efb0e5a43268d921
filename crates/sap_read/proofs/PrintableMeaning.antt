-- The expansion of a file's process can be printed, where it is over the signature.
use Rattle.std.proofs.Common.{◌≡◌, ◌≤◌, ◌^◌, ◌+◌, ℕ, suc, Bool, true, false, List, [], ◌∷◌, map, length, Some, refl, sym, ap, subst, ◌∙◌, arith}
use Rattle.std.specs.Prelude.{All, if◌then◌else◌}
use Rattle.std.specs.List.{AllByRecursion}
use Rattle.std.specs.Str.{bytes_eq}
use Rattle.std.proofs.lemmas.List.Elements.{All-nil, All-cons, All-head, All-tail}
use Rattle.std.proofs.lemmas.Slice.Eq.{bytes_eq-Decides}
use Rattle.sap_terms.specs.Choice.{Choice, instance, instances}
use Rattle.sap_terms.specs.Message.{IsOver, AreOver, IsFactOver}
use Rattle.sap_terms.specs.Modulo.{instance_fact, instance_facts}
use Rattle.sap_terms.specs.Signature.{Sig}
use Rattle.sap_terms.specs.Tree.{Tree, variable, public, fresh, apply, Trees, none, more, trees_of, list_of}
use Rattle.sap_terms.specs.Variables.{is_known}
use Rattle.sap_terms.specs.declared.fact.Fact.{Fact}
use Rattle.sap_terms.specs.declared.var.Sort.{Sort}
use Rattle.sap_terms.specs.declared.var.Sort.TheVariants.{Msg, Fresh, Pub}
use Rattle.sap_terms.specs.declared.var.Var.{Var}
use Rattle.sap_grammar.specs.ByteWords.{IsName, IsContent}
use Rattle.sap_grammar.specs.TermGrammar.{IsConstant}
use Rattle.sap_grammar.specs.Printable.{IsTidyVariable, IsTidyUse, IsTidy, AreTidy, HasNames, HaveNames, IsPrintableFact}
use Rattle.sap_process.specs.Action.{Action, new, out, send, input, receive, event, insert, delete, lock, unlock, embedded}
use Rattle.sap_process.specs.Instance.{action_instance}
use Rattle.sap_macro.specs.Expansion.{Meaning, Plain, binding, by_names, entered, expanded, expansion, meaning_after, meaning_of, no_meaning, own_names, plain, plain_after, plain_bodies, put, same_name, unchanged, where_none, with_definition, with_plain, with_uses}
use Rattle.sap_macro.specs.NewNames.{new_name, renamed, taken_after}
use Rattle.sap_macro.specs.Written.{Written, nil, call, parallel, replicated, act, test, lookup, Definition}
use Rattle.sap_draft.specs.Printable.{IsActionOver, IsPrintableAct, IsPrintableAction, IsSpelledTerm, IsSpelledFact, IsSpelledAct, IsSpelledAction, IsSpelledWritten}
use Rattle.sap_read.specs.Printable.{IsPrintableProcess}
use Rattle.sap_read.proofs.PrintableSorts.{args_instances, pair_kept}
use Rattle.sap_read.proofs.ProcessOver.{IsProcessOver}
use Rattle.sap_read.proofs.TakenNames.{MeaningGrows, Stays, chosen_length, chosen_stays, expanded_grows, meaning_grows, nothing_grows, or_true, with_grows}

-- as many arguments as before
as_many : (σ : Choice) (ts : Trees) → length (list_of (instances σ ts)) ≡ length (list_of ts)
as_many σ none = refl
as_many σ (more t ts) = ap suc (as_many σ ts)

name_wider : (most wide : ℕ) (x : List ℕ) → most ≤ wide → IsName most x → IsName wide x
name_wider most wide x le h = let s = h.short in record { is = h.is; no_grammar_word = h.no_grammar_word; short = omega (arith, le, s) }

content_wider : (most wide : ℕ) (x : List ℕ) → most ≤ wide → IsContent most x → IsContent wide x
content_wider most wide x le h = let s = h.short in record { is = h.is; short = omega (arith, le, s) }

module _ (most wide : ℕ) (le : most ≤ wide) (g : Sig) where
  -- a variable that is written
  record IsWrittenVar (v : Var) : Type 0 where
    tidy : IsTidyVariable g v.sort v.name
    name : IsName most v.name

  -- what stands for it can be printed, where it is over the signature
  abbrev Puts : Choice → Type 0
  Puts r = (v : Var) → IsWrittenVar v → IsSpelledTerm wide g (r v)

  module _ (r : Choice) (puts : Puts r) where
    mutual
      over_before : (t : Tree) → IsOver g (instance r t) → IsOver g t
      over_before (variable v) o = tt
      over_before (public n) o = tt
      over_before (fresh k) o = tt
      over_before (apply f ts) o = (o.0 ∙ ap (λ n. Some n) (as_many r ts), all_over_before ts o.1)

      all_over_before : (ts : Trees) → AreOver g (instances r ts) → AreOver g ts
      all_over_before none o = tt
      all_over_before (more t ts) o = (over_before t o.0, all_over_before ts o.1)

    use_put : (f : List ℕ) (ts : Trees) → IsTidyUse g f ts → IsTidyUse g f (instances r ts)
    use_put f none h = h
    use_put f (more t ts) h = h

    mutual
      put_tidy : (t : Tree) → IsTidy g t → HasNames most t → IsOver g (instance r t) → IsTidy g (instance r t)
      put_tidy (variable v) h n o = (puts v (record { tidy = h; name = n }) o).tidy
      put_tidy (public m) h n o = tt
      put_tidy (fresh k) h n o = h
      put_tidy (apply f ts) h n o = (use_put f ts h.0, all_put_tidy ts h.1 n.1 o.1)

      all_put_tidy : (ts : Trees) → AreTidy g ts → HaveNames most ts → AreOver g (instances r ts) → AreTidy g (instances r ts)
      all_put_tidy none h n o = tt
      all_put_tidy (more t ts) h n o = (put_tidy t h.0 n.0 o.0, all_put_tidy ts h.1 n.1 o.1)

    mutual
      put_named : (t : Tree) → IsTidy g t → HasNames most t → IsOver g (instance r t) → HasNames wide (instance r t)
      put_named (variable v) h n o = (puts v (record { tidy = h; name = n }) o).names
      put_named (public m) h n o = content_wider most wide m le n
      put_named (fresh k) h n o = n
      put_named (apply f ts) h n o = ((λ e. name_wider most wide f le (n.0 (sym (pair_kept r f ts) ∙ e))), all_put_named ts h.1 n.1 o.1)

      all_put_named : (ts : Trees) → AreTidy g ts → HaveNames most ts → AreOver g (instances r ts) → HaveNames wide (instances r ts)
      all_put_named none h n o = tt
      all_put_named (more t ts) h n o = (put_named t h.0 n.0 o.0, all_put_named ts h.1 n.1 o.1)

    term_put : (t : Tree) → IsSpelledTerm most g t → IsSpelledTerm wide g (instance r t)
    term_put t s o =
        let h = s (over_before t o) in record { tidy = put_tidy t h.tidy h.names o; names = put_named t h.tidy h.names o }

    args_put : (ts : List Tree) → All (IsSpelledTerm most g) ts → AllByRecursion (IsSpelledTerm wide g) (map (instance r) ts)
    args_put [] h = tt
    args_put (t ∷ ts) h = (term_put t (All-head (IsSpelledTerm most g) t ts h), args_put ts (All-tail (IsSpelledTerm most g) t ts h))

    fact_before : (f : Fact) → IsFactOver g (instance_fact r f) → AreOver g (instances r (trees_of f.args))
    fact_before f o = subst (AreOver g) (args_instances r f.args) o

    fact_put : (f : Fact) → IsSpelledFact most g f → IsSpelledFact wide g (instance_fact r f)
    fact_put f s o =
        let inner = fact_before f o in
        let h = s (all_over_before (trees_of f.args) inner) in
        let same = sym (args_instances r f.args) in
        record {
          tidy = (h.tidy.0, subst (AreTidy g) same (all_put_tidy (trees_of f.args) h.tidy.1 h.names.1 inner));
          names = (name_wider most wide f.name le h.names.0, subst (HaveNames wide) same (all_put_named (trees_of f.args) h.tidy.1 h.names.1 inner));
        }

    act_put : (f : Fact) → IsSpelledAct most g f → IsSpelledAct wide g (instance_fact r f)
    act_put f s o =
        let inner = fact_before f o in
        let h = s (all_over_before (trees_of f.args) inner) in
        record { printable = fact_put f (λ u. (s u).printable) o; linear = h.linear }

    -- each of these
    module _ (P Q : Fact → Type 0) (one : (f : Fact) → P f → IsFactOver g (instance_fact r f) → Q (instance_fact r f)) where
      each_put : (fs : List Fact) → All P fs → All (IsFactOver g) (instance_facts r fs) → All Q (instance_facts r fs)
      each_put [] h o = All-nil Q
      each_put (f ∷ fs) h o =
          All-cons Q (instance_fact r f) (instance_facts r fs) (one f (All-head P f fs h) (All-head (IsFactOver g) (instance_fact r f) (instance_facts r fs) o))
          (each_put fs (All-tail P f fs h) (All-tail (IsFactOver g) (instance_fact r f) (instance_facts r fs) o))

    module _ (b : List ℕ → List ℕ) (binds : (x : List ℕ) → IsName most x → IsName wide (b x)) where
      action_put : (a : Action) → IsSpelledAction most g a → IsActionOver g (binding b (action_instance r a)) → IsPrintableAction wide g (binding b (action_instance r a))
      action_put (new x) h o = record { tidy = o; names = binds x.name h }
      action_put (out t) h o = term_put t h o
      action_put (send t u) h o = (term_put t h.0 o.0, term_put u h.1 o.1)
      action_put (input t) h o = term_put t h o
      action_put (receive t u) h o = (term_put t h.0 o.0, term_put u h.1 o.1)
      action_put (event f) h o = act_put f h o
      action_put (insert t u) h o = (term_put t h.0 o.0, term_put u h.1 o.1)
      action_put (delete t) h o = term_put t h o
      action_put (lock t n) h o = term_put t h o
      action_put (unlock t n) h o = term_put t h o
      action_put (embedded l e q) h o = (
        each_put (IsSpelledFact most g) (IsPrintableFact wide g) fact_put l h.0 o.0,
        each_put (IsSpelledAct most g) (IsPrintableAct wide g) act_put e h.1 o.1,
        each_put (IsSpelledFact most g) (IsPrintableFact wide g) fact_put q h.2 o.2,
      )

  not_constant : (s : Sort) (x : List ℕ) → (IsConstant g x → ⊥) → IsTidyVariable g s x
  not_constant Msg x h = h
  not_constant Fresh x h = tt
  not_constant Pub x h = tt

  -- where these names are taken already, and as many may be
  module _ (ids : List (List ℕ)) where
    -- there is room for a new name
    abbrev HasRoom : List (List ℕ) → Type 0
    HasRoom taken = length taken + 2 ≤ 2 ^ 64

    -- new names are names, and no constants
    abbrev pub NewNamesAre : Type 0
    NewNamesAre = (taken : List (List ℕ)) (x : List ℕ) → Stays ids taken → HasRoom taken → IsName most x → IsName wide (new_name taken x) × (IsConstant g (new_name taken x) → ⊥)

    module _ (fresh_names : NewNamesAre) where
      -- of names that are replaced by new ones
      record IsRenamed (x y : List ℕ) : Type 0 where
        name : IsName wide y
        tidy : (s : Sort) → IsTidyVariable g s x → IsTidyVariable g s y

      names_renamed : (ys taken : List (List ℕ)) (x : List ℕ) → Stays ids taken → HasRoom (taken_after taken ys) → IsName most x → IsRenamed x (renamed taken ys x)
      names_renamed [] taken x stays room h = record { name = name_wider most wide x le h; tidy = λ s t. t }
      names_renamed (y ∷ ys) taken x stays room h =
          by (bytes_eq y x) refl (names_renamed ys (new_name taken y ∷ taken) x (λ z k. or_true (bytes_eq (new_name taken y) z) (is_known taken z) (stays z k)) room h) where
            long : HasRoom taken
            long = let n = chosen_length taken (y ∷ ys) in omega (arith, n, room)

            by : (t : Bool) → bytes_eq y x ≡ t → IsRenamed x (renamed (new_name taken y ∷ taken) ys x) → IsRenamed x (if t then new_name taken y else renamed (new_name taken y ∷ taken) ys x)
            by true e later =
                let same : y ≡ x = (bytes_eq-Decides y x).0 e in
                let is = fresh_names taken y stays long (subst (IsName most) (sym same) h) in
                record { name = is.0; tidy = λ s t. not_constant s (new_name taken y) is.1 }
            by false e later = later

      puts_names : (ys taken : List (List ℕ)) → Stays ids taken → HasRoom (taken_after taken ys) → Puts (by_names (renamed taken ys))
      puts_names ys taken stays room v h o =
          let is = names_renamed ys taken v.name stays room h.name in record { tidy = is.tidy v.sort h.tidy; names = is.name }

      nothing : IsSpelledTerm wide g (public [])
      nothing o = record { tidy = tt; names = record { is = refl; short = omega arith } }

      puts_args : (ys : List (List ℕ)) (ts : List Tree) (other : Choice) → AllByRecursion (IsSpelledTerm wide g) ts → Puts other → Puts (put ys ts other)
      puts_args [] ts other h k v w = k v w
      puts_args (y ∷ ys) [] other h k v w = by (bytes_eq y v.name) (puts_args ys [] other h k v w) where
        by : (t : Bool) → IsSpelledTerm wide g (put ys [] other v) → IsSpelledTerm wide g (if t then public [] else put ys [] other v)
        by true later = nothing
        by false later = later
      puts_args (y ∷ ys) (t ∷ ts) other h k v w = by (bytes_eq y v.name) (puts_args ys ts other h.1 k v w) where
        by : (c : Bool) → IsSpelledTerm wide g (put ys ts other v) → IsSpelledTerm wide g (if c then t else put ys ts other v)
        by true later = h.0
        by false later = later

      -- a use on arguments that can be printed can be, where there is room and it is over the signature
      abbrev Prints : Meaning → Type 0
      Prints m = (f : List ℕ) (ts : List Tree) (taken : List (List ℕ)) → AllByRecursion (IsSpelledTerm wide g) ts → Stays ids taken → HasRoom (m f ts taken).taken
          → IsProcessOver g (m f ts taken).process → IsPrintableProcess wide g (m f ts taken).process

      module _ (m : Meaning) (grows : MeaningGrows m) (prints : Prints m) (r : Choice) (puts : Puts r) (b : List ℕ → List ℕ) (binds : (x : List ℕ) → IsName most x → IsName wide (b x)) where
        -- the names that are taken behind it
        abbrev then_taken : Written → List (List ℕ) → List (List ℕ)
        then_taken p taken = (expanded m r b p taken).taken

        room_before : (q : Written) (middle : List (List ℕ)) → HasRoom (then_taken q middle) → HasRoom middle
        room_before q middle room = let l = (expanded_grows m grows r b q middle).longer in omega (arith, l, room)

        stays_behind : (p : Written) (taken : List (List ℕ)) → Stays ids taken → Stays ids (then_taken p taken)
        stays_behind p taken stays x k = (expanded_grows m grows r b p taken).stays x (stays x k)

        prints_in : (p : Written) (taken : List (List ℕ)) → IsSpelledWritten most g p → Stays ids taken → HasRoom (then_taken p taken)
            → IsProcessOver g (expanded m r b p taken).process → IsPrintableProcess wide g (expanded m r b p taken).process
        prints_in nil taken h stays room o = tt
        prints_in (call f ts) taken h stays room o = prints f (map (instance r) ts) taken (args_put r puts ts h.1) stays room o
        prints_in (parallel p q) taken h stays room o = (
          prints_in p taken h.0 stays (room_before q (then_taken p taken) room) o.0,
          prints_in q (then_taken p taken) h.1 (stays_behind p taken stays) room o.1,
        )
        prints_in (replicated p) taken h stays room o = prints_in p taken h stays room o
        prints_in (act a p) taken h stays room o = (action_put r puts b binds a h.0 o.0, prints_in p taken h.1 stays room o.1)
        prints_in (test t u p q) taken h stays room o = (
          term_put r puts t h.0 o.0,
          term_put r puts u h.1 o.1,
          prints_in p taken h.2 stays (room_before q (then_taken p taken) room) o.2,
          prints_in q (then_taken p taken) h.3 (stays_behind p taken stays) room o.3,
        )
        prints_in (lookup t x p q) taken h stays room o = (
          term_put r puts t h.0 o.0,
          record { tidy = not_constant x.sort (b x.name) o.1; names = binds x.name h.1 },
          prints_in p taken h.2 stays (room_before q (then_taken p taken) room) o.2,
          prints_in q (then_taken p taken) h.3 (stays_behind p taken stays) room o.3,
        )

      abbrev IsSpelledDefinition : Definition → Type 0
      IsSpelledDefinition d = IsSpelledWritten most g d.body

      entered_prints : (m : Meaning) → MeaningGrows m → Prints m → (d : Definition) → IsSpelledDefinition d → (ts : List Tree) (taken : List (List ℕ)) → AllByRecursion (IsSpelledTerm wide g) ts → Stays ids taken
          → HasRoom (entered m d ts taken).taken → IsProcessOver g (entered m d ts taken).process → IsPrintableProcess wide g (entered m d ts taken).process
      entered_prints m grows prints d own ts taken h stays room o =
          let ys = own_names d in
          let after = taken_after taken ys in
          let r = put d.params ts (by_names (renamed taken ys)) in
          let l = (expanded_grows m grows r (renamed taken ys) d.body after).longer in
          let inner : HasRoom after = omega (arith, l, room) in
          prints_in m grows prints r (puts_args d.params ts (by_names (renamed taken ys)) h (puts_names ys taken stays inner)) (renamed taken ys) (λ x n. (names_renamed ys taken x stays inner n).name)
          d.body after own (λ x k. chosen_stays taken ys x (stays x k)) room o

      with_prints : (m : Meaning) → MeaningGrows m → Prints m → (d : Definition) → IsSpelledDefinition d → Prints (with_definition m d)
      with_prints m grows prints d own f ts taken = by (bytes_eq d.name f) where
        by : (t : Bool) → AllByRecursion (IsSpelledTerm wide g) ts → Stays ids taken → HasRoom (if t then entered m d ts taken else m f ts taken).taken
            → IsProcessOver g (if t then entered m d ts taken else m f ts taken).process → IsPrintableProcess wide g (if t then entered m d ts taken else m f ts taken).process
        by true = entered_prints m grows prints d own ts taken
        by false = prints f ts taken

      after_prints : (ds : List Definition) (m : Meaning) → MeaningGrows m → Prints m → AllByRecursion IsSpelledDefinition ds → Prints (meaning_after m ds)
      after_prints [] m grows prints own = prints
      after_prints (d ∷ ds) m grows prints own = after_prints ds (with_definition m d) (with_grows m grows d) (with_prints m grows prints d own.0) own.1

      -- names without parameters, replaced
      abbrev PlainSpelled : Plain → Type 0
      PlainSpelled m = (f : List ℕ) (ts : List Tree) → IsSpelledWritten most g (call f ts) → IsSpelledWritten most g (m f ts)

      uses_spelled : (m : Plain) → PlainSpelled m → (p : Written) → IsSpelledWritten most g p → IsSpelledWritten most g (with_uses m p)
      uses_spelled m plain nil h = tt
      uses_spelled m plain (call f ts) h = plain f ts h
      uses_spelled m plain (parallel p q) h = (uses_spelled m plain p h.0, uses_spelled m plain q h.1)
      uses_spelled m plain (replicated p) h = uses_spelled m plain p h
      uses_spelled m plain (act a p) h = (h.0, uses_spelled m plain p h.1)
      uses_spelled m plain (test t u p q) h = (h.0, h.1, uses_spelled m plain p h.2, uses_spelled m plain q h.3)
      uses_spelled m plain (lookup t x p q) h = (h.0, h.1, uses_spelled m plain p h.2, uses_spelled m plain q h.3)

      none_spelled : (xs : List (List ℕ)) (p q : Written) → IsSpelledWritten most g p → IsSpelledWritten most g q → IsSpelledWritten most g (where_none xs p q)
      none_spelled [] p q h k = h
      none_spelled (x ∷ xs) p q h k = k

      with_plain_spelled : (m : Plain) → PlainSpelled m → (d : Definition) → IsSpelledDefinition d → PlainSpelled (with_plain m d)
      with_plain_spelled m plain d own f ts h = by (bytes_eq d.name f) where
        by : (t : Bool) → IsSpelledWritten most g (if t then where_none d.params (with_uses m d.body) (call f ts) else m f ts)
        by true = none_spelled d.params (with_uses m d.body) (call f ts) (uses_spelled m plain d.body own) h
        by false = plain f ts h

      plain_after_spelled : (ds : List Definition) (m : Plain) → AllByRecursion IsSpelledDefinition ds → PlainSpelled m → PlainSpelled (plain_after m ds)
      plain_after_spelled [] m own plain = plain
      plain_after_spelled (d ∷ ds) m own plain = plain_after_spelled ds (with_plain m d) own.1 (with_plain_spelled m plain d own.0)

      bodies_spelled : (ds : List Definition) (m : Plain) → AllByRecursion IsSpelledDefinition ds → PlainSpelled m → AllByRecursion IsSpelledDefinition (plain_bodies m ds)
      bodies_spelled [] m own plain = tt
      bodies_spelled (d ∷ ds) m own plain = (uses_spelled m plain d.body own.0, bodies_spelled ds (with_plain m d) own.1 (with_plain_spelled m plain d own.0))

      -- the expansion
      pub expansion_prints : (ds : List Definition) (p : Written) → AllByRecursion IsSpelledDefinition ds → IsSpelledWritten most g p → HasRoom (expansion ds ids p).taken
          → IsProcessOver g (expansion ds ids p).process → IsPrintableProcess wide g (expansion ds ids p).process
      expansion_prints ds p own h room o =
          let bodies = plain_bodies call ds in
          let spelled = bodies_spelled ds call own (λ f ts k. k) in
          let m = meaning_of bodies in
          prints_in m (meaning_grows bodies) (after_prints bodies no_meaning nothing_grows (λ f ts taken a s e q. tt) spelled) unchanged (λ v w q. record { tidy = w.tidy; names = name_wider most wide v.name le w.name })
          same_name (λ x n. name_wider most wide x le n) (plain ds p) ids (uses_spelled (plain_after call ds) (plain_after_spelled ds call own (λ f ts k. k)) p h) (λ x k. k) room o
