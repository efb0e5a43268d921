-- Uses of definitions in the expansion of a process, each with the word at which it is written and those of the uses above it, and the
-- first that has a large argument.
use Rattle.std.specs.Prelude.{ℕ, List, [], ◌∷◌, ◌++◌, map, Option, Some, None, if◌then◌else◌}
use Rattle.std.specs.Str.{bytes_eq}
use Rattle.sap_terms.specs.Choice.{Choice, instance}
use Rattle.sap_terms.specs.Tree.{Tree}
use Rattle.sap_macro.specs.Expansion.{put, unchanged}
use Rattle.sap_macro.specs.Located.{Located, nil_at, call_at, parallel_at, replicated_at, act_at, test_at, lookup_at}
use Rattle.sap_origin.specs.Definitions.{LocatedDefinition}
use Rattle.sap_origin.specs.Origins.{start, words_left}
use Rattle.sap_origin.specs.Reached.{Standing, entered}
use Rattle.sap_uses.specs.UseCauses.{has_large}
use Rattle.sap_use_words.specs.WrittenUses.{LocatedUse, use_at}
use Rattle.sap_use_words.specs.declared.use_word.UseWord.{UseWord}

-- the uses that come of one, by where one stands, what stands for variables there, its number, its name and its arguments
abbrev pub Led : Type 0
Led = Standing → Choice → ℕ → List ℕ → List Tree → List LocatedUse

-- those that come of a process, in preorder
abbrev pub uses_in : Led → Standing → Choice → Located → List LocatedUse
uses_in m s r (nil_at k) = []
uses_in m s r (call_at k f ts) = m s r k f ts
uses_in m s r (parallel_at k p q) = uses_in m s r p ++ uses_in m s r q
uses_in m s r (replicated_at k p) = uses_in m s r p
uses_in m s r (act_at k a p) = uses_in m s r p
uses_in m s r (test_at k t u p q) = uses_in m s r p ++ uses_in m s r q
uses_in m s r (lookup_at k t x p q) = uses_in m s r p ++ uses_in m s r q

-- Those that come of a use of a definition with these parameters. Where there are none, its body stands for the name before anything else:
-- those in the body, where variables stand for what they stand for at the use. Else the use itself, and then those in the body, where
-- arguments stand for the parameters.
abbrev pub led_by : Led → LocatedDefinition → List (List ℕ) → Standing → Choice → ℕ → List Tree → List LocatedUse
led_by m d [] s r k ts = uses_in m (entered s k d) r d.body
led_by m d (x ∷ xs) s r k ts =
    use_at s k d.name (map (instance r) ts)
    ∷ uses_in m (entered s k d) (put d.params (map (instance r) ts) unchanged) d.body

-- this definition too; of what nothing defines comes none
abbrev pub with_led : Led → LocatedDefinition → Led
with_led m d s r k f ts = if bytes_eq d.name f then led_by m d d.params s r k ts else m s r k f ts

abbrev pub none_led : Led
none_led s r k f ts = []

-- behind these definitions; each body knows those before it
abbrev pub led_after : Led → List LocatedDefinition → Led
led_after m [] = m
led_after m (d ∷ ds) = led_after (with_led m d) ds

-- the uses of definitions with parameters in the expansion of a process, behind whose item so many words of the file are, in preorder
abbrev pub expanded_uses : List LocatedDefinition → ℕ → Located → List LocatedUse
expanded_uses ds n p = uses_in (led_after none_led ds) (start n) unchanged p

-- the first of these uses that has an argument with more nodes than a term may have
abbrev pub first_with_large : List LocatedUse → Option LocatedUse
first_with_large [] = None
first_with_large (u ∷ us) = if has_large u.args then Some u else first_with_large us

-- the first such use in the expansion
abbrev pub large_use : List LocatedDefinition → ℕ → Located → Option LocatedUse
large_use ds n p = first_with_large (expanded_uses ds n p)

-- the words that tell a use: from its name so many words of the file are left, and from the names of the uses above it so many, the
-- innermost first
pub record Words : Type 0 where
  pub word : ℕ
  pub above : List ℕ

abbrev pub words_of : LocatedUse → Words
words_of u = record { word = u.word; above = u.above }

-- and these are they
abbrev pub words_in : UseWord → Words
words_in w = record { word = words_left w.word; above = map words_left w.above.items }
