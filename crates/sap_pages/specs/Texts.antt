-- The texts that tell how the program is called: a list of its commands, a page of each, and its version.
use Rattle.std.specs.Prelude.{ℕ, codes, List, [], ◌∷◌, ◌++◌}

-- lines one below another, each ended by a line feed
abbrev pub lines_text : List (List ℕ) → List ℕ
lines_text [] = []
lines_text (line ∷ lines) = line ++ (10 ∷ lines_text lines)

-- the commands with a line each, the statuses, and where the pages stand
abbrev pub commands_text : List ℕ
commands_text =
    lines_text
    (codes "sapic translates processes, protocols in the SAPIC calculus, into multiset"
    ∷ codes "rewrite rules, and their runs into one another."
    ∷ []
    ∷ codes "usage: sapic COMMAND ARGUMENTS"
    ∷ []
    ∷ codes "  compile FILE            the theory of FILE: rules, restrictions, lemmas"
    ∷ codes "  compile-inline FILE     the same without restrictions: lemmas carry them"
    ∷ codes "  compile-short FILE      the theory of compile with fewer rules"
    ∷ codes "  why FILE                accepted, or why not, where, and what to change"
    ∷ codes "  to-rules FILE RUN       the run of the rules opposite to a run of the process"
    ∷ codes "  to-process FILE RUN     the run of the process opposite to a run of the rules"
    ∷ codes "  fill FILE RUN           the run that a short run stands for"
    ∷ codes "  judge FILE RUN          whether restrictions and lemmas are true on a run"
    ∷ codes "  check-rules THEORY RUN  the same of a theory, on a run of its rules"
    ∷ codes "  tell FILE RUN           what a run does, line by line, and what judge says"
    ∷ codes "  chart FILE RUN          the same run as a picture, SVG"
    ∷ codes "  to-json RUN             a run as JSON"
    ∷ codes "  from-json RUN           the run that JSON is"
    ∷ codes "  sample N                sizes of a run of N sessions, and of its conversions"
    ∷ codes "  help                    this page; --help does the same"
    ∷ codes "  help COMMAND            what COMMAND reads, writes and refuses, an example"
    ∷ codes "  --version               the version, and the kit that it was proved with"
    ∷ []
    ∷ codes "The text goes to standard output, and the status says how it went:"
    ∷ []
    ∷ codes "  0  the whole text was written"
    ∷ codes "  1  the file, or the theory, is refused"
    ∷ codes "  2  the run, or the JSON of one, is refused"
    ∷ codes "  3  the words are none of these"
    ∷ codes "  4  a file couldn't be read"
    ∷ codes "  5  an output failed"
    ∷ codes "  6  memory was wanting"
    ∷ []
    ∷ codes "From 1 on a line on standard error says so. The pages stand in docs/, and"
    ∷ codes "docs/README.md says what each of them answers."
    ∷ [])

-- the program's name and version, and the kit that it was proved with
abbrev pub version_text : List ℕ
version_text =
    lines_text
    (codes "sapic 1.0.0"
    ∷ codes "proved with rattle-kit-13f logic dac8208d650f15bf"
    ∷ [])

-- the page of `compile`
abbrev pub compile_page : List ℕ
compile_page =
    lines_text
    (codes "sapic compile FILE"
    ∷ []
    ∷ codes "Writes    the theory of FILE: the rules of its process, the restrictions that"
    ∷ codes "          the process needs, named sapic_.., those of FILE, and its lemmas."
    ∷ codes "Reads     FILE, of at most 1048576 bytes."
    ∷ codes "Refuses   with status 1 a FILE in which anything is wrong, and says what; where,"
    ∷ codes "          and what to change, says: sapic why FILE"
    ∷ codes "Example   sapic compile examples/answer.spthy"
    ∷ codes "Pages     docs/files.md, docs/translation.md"
    ∷ [])

-- the page of `compile-inline`
abbrev pub compile_inline_page : List ℕ
compile_inline_page =
    lines_text
    (codes "sapic compile-inline FILE"
    ∷ []
    ∷ codes "Writes    the theory that compile writes, without its restrictions: each lemma"
    ∷ codes "          carries them all in its formula."
    ∷ codes "Reads     FILE, of at most 1048576 bytes."
    ∷ codes "Refuses   with status 1 a FILE that compile refuses."
    ∷ codes "Example   sapic compile-inline examples/answer.spthy"
    ∷ codes "Pages     docs/files.md, docs/formulas.md"
    ∷ [])

-- the page of `compile-short`
abbrev pub compile_short_page : List ℕ
compile_short_page =
    lines_text
    (codes "sapic compile-short FILE"
    ∷ []
    ∷ codes "Writes    the theory that compile writes, with fewer rules: those by which"
    ∷ codes "          control alone moves on are left out, and what they would add stands"
    ∷ codes "          where the facts stood that they take. A run of these rules goes with"
    ∷ codes "          check-rules, and not with the commands on FILE."
    ∷ codes "Reads     FILE, of at most 1048576 bytes."
    ∷ codes "Refuses   with status 1 a FILE that compile refuses."
    ∷ codes "Example   sapic compile-short examples/answer.spthy"
    ∷ codes "Pages     docs/files.md, docs/translation.md"
    ∷ [])

-- the page of `why`
abbrev pub why_page : List ℕ
why_page =
    lines_text
    (codes "sapic why FILE"
    ∷ []
    ∷ codes "Writes    accepted; or the line with which compile refuses FILE, where the"
    ∷ codes "          cause stands, and what to change."
    ∷ codes "Reads     FILE, of at most 1048576 bytes."
    ∷ codes "Refuses   nothing: the status is 0 whether FILE is accepted or not."
    ∷ codes "Example   sapic why examples/answer.spthy"
    ∷ codes "Pages     docs/files.md"
    ∷ [])

-- the page of `to-rules`
abbrev pub to_rules_page : List ℕ
to_rules_page =
    lines_text
    (codes "sapic to-rules FILE RUN"
    ∷ []
    ∷ codes "Writes    the run of the rules of FILE that is opposite to RUN: it shows the"
    ∷ codes "          same, and the adversary knows the same behind it."
    ∷ codes "Reads     FILE, of at most 1048576 bytes, and RUN, a run of its process, of at"
    ∷ codes "          most 16777216 bytes and 5000 steps."
    ∷ codes "Refuses   with status 1 a FILE that compile refuses; with status 2 a RUN that"
    ∷ codes "          is none, or has a step that the process can't do with terms of at"
    ∷ codes "          most 256 nodes."
    ∷ codes "Example   sapic to-rules examples/answer.spthy examples/runs/answer.prun"
    ∷ codes "Pages     docs/runs.md, docs/conversions.md"
    ∷ [])

-- the page of `to-process`
abbrev pub to_process_page : List ℕ
to_process_page =
    lines_text
    (codes "sapic to-process FILE RUN"
    ∷ []
    ∷ codes "Writes    the run of the process of FILE that is opposite to RUN: it shows the"
    ∷ codes "          same, and the adversary knows the same behind it."
    ∷ codes "Reads     FILE, of at most 1048576 bytes, and RUN, a run of its rules, of at"
    ∷ codes "          most 16777216 bytes and 20001 steps."
    ∷ codes "Refuses   with status 1 a FILE that compile refuses; with status 2 a RUN that"
    ∷ codes "          is none, has a step that the rules can't do with terms of at most"
    ∷ codes "          256 nodes, or makes a restriction false that is named sapic_.."
    ∷ codes "Example   sapic to-process examples/answer.spthy examples/runs/answer.rrun"
    ∷ codes "Pages     docs/runs.md, docs/conversions.md, docs/attacks.md"
    ∷ [])

-- the page of `fill`
abbrev pub fill_page : List ℕ
fill_page =
    lines_text
    (codes "sapic fill FILE RUN"
    ∷ []
    ∷ codes "Writes    the run that RUN, a short run, stands for, with each step by which"
    ∷ codes "          the adversary makes what it gives."
    ∷ codes "Reads     FILE, of at most 1048576 bytes, and RUN, a short run of its process,"
    ∷ codes "          of at most 16777216 bytes and 500 steps."
    ∷ codes "Refuses   with status 1 a FILE that compile refuses; with status 2 a RUN that"
    ∷ codes "          is none, or has a step that process and adversary can't do with"
    ∷ codes "          terms of at most 256 nodes."
    ∷ codes "Example   sapic fill examples/answer.spthy examples/runs/answer.srun"
    ∷ codes "Pages     docs/runs.md"
    ∷ [])

-- the page of `judge`
abbrev pub judge_page : List ℕ
judge_page =
    lines_text
    (codes "sapic judge FILE RUN"
    ∷ []
    ∷ codes "Writes    of each restriction of FILE, and then of each lemma, a line, whether"
    ∷ codes "          its formula is true on what RUN shows: NAME: holds, NAME: fails, or"
    ∷ codes "          NAME: too costly. It speaks of this run alone and looks at no mode,"
    ∷ codes "          and the status is 0 whatever it says."
    ∷ codes "Reads     FILE, of at most 1048576 bytes, and RUN, a run of its process or of"
    ∷ codes "          its rules, of at most 16777216 bytes."
    ∷ codes "Refuses   with status 1 a FILE that compile refuses; with status 2 a RUN that"
    ∷ codes "          to-rules refuses, or, where it is one of rules, to-process."
    ∷ codes "Example   sapic judge examples/answer.spthy examples/runs/answer.prun"
    ∷ codes "Pages     docs/formulas.md, docs/attacks.md"
    ∷ [])

-- the page of `check-rules`
abbrev pub check_rules_page : List ℕ
check_rules_page =
    lines_text
    (codes "sapic check-rules THEORY RUN"
    ∷ []
    ∷ codes "Writes    of each restriction of THEORY, and then of each lemma, a line,"
    ∷ codes "          whether its formula is true on the full trace of RUN: NAME: holds,"
    ∷ codes "          NAME: fails, or NAME: too costly."
    ∷ codes "Reads     THEORY, as compile writes one, and RUN, a run of its rules, each of"
    ∷ codes "          at most 16777216 bytes."
    ∷ codes "Refuses   with status 1 a THEORY that is none; with status 2 a RUN that is"
    ∷ codes "          none, or has a step that the rules can't do with terms of at most"
    ∷ codes "          256 nodes."
    ∷ codes "Example   sapic check-rules answer-theory.spthy examples/runs/answer.rrun"
    ∷ codes "          where sapic compile examples/answer.spthy wrote the theory"
    ∷ codes "Pages     docs/rules.md, docs/attacks.md"
    ∷ [])

-- the page of `tell`
abbrev pub tell_page : List ℕ
tell_page =
    lines_text
    (codes "sapic tell FILE RUN"
    ∷ []
    ∷ codes "Writes    what each step of RUN does, a line for each, with the terms that it"
    ∷ codes "          sends, takes, stores and shows; and behind an empty line what judge"
    ∷ codes "          writes. A run of rules is told as one of the process."
    ∷ codes "Reads     FILE, of at most 1048576 bytes, and RUN, a run of its process or of"
    ∷ codes "          its rules, of at most 16777216 bytes."
    ∷ codes "Refuses   with status 1 a FILE that compile refuses; with status 2 a RUN that"
    ∷ codes "          to-rules refuses, or, where it is one of rules, to-process."
    ∷ codes "Example   sapic tell examples/answer.spthy examples/runs/answer.prun"
    ∷ codes "Pages     docs/telling.md"
    ∷ [])

-- the page of `chart`
abbrev pub chart_page : List ℕ
chart_page =
    lines_text
    (codes "sapic chart FILE RUN"
    ∷ []
    ∷ codes "Writes    what tell tells of the steps as a picture, SVG: a line from top to"
    ∷ codes "          bottom for the adversary and for each thread, and arrows between"
    ∷ codes "          them for what is sent and taken."
    ∷ codes "Reads     FILE, of at most 1048576 bytes, and RUN, a run of its process or of"
    ∷ codes "          its rules, of at most 16777216 bytes."
    ∷ codes "Refuses   with status 1 a FILE that compile refuses; with status 2 a RUN that"
    ∷ codes "          to-rules refuses, or, where it is one of rules, to-process."
    ∷ codes "Example   sapic chart examples/answer.spthy examples/runs/answer.prun"
    ∷ codes "Pages     docs/telling.md"
    ∷ [])

-- the page of `to-json`
abbrev pub to_json_page : List ℕ
to_json_page =
    lines_text
    (codes "sapic to-json RUN"
    ∷ []
    ∷ codes "Writes    RUN as JSON: an object with its kind and its steps."
    ∷ codes "Reads     RUN, a run of a process or of rules, of at most 16777216 bytes."
    ∷ codes "Refuses   with status 2 a RUN that is none. It asks for no file, so a step may"
    ∷ codes "          be one that nothing can do."
    ∷ codes "Example   sapic to-json examples/runs/answer.prun"
    ∷ codes "Pages     docs/runs.md"
    ∷ [])

-- the page of `from-json`
abbrev pub from_json_page : List ℕ
from_json_page =
    lines_text
    (codes "sapic from-json RUN"
    ∷ []
    ∷ codes "Writes    the run that RUN is, as the other commands read it."
    ∷ codes "Reads     RUN, the JSON of a run of a process or of rules, as to-json writes"
    ∷ codes "          it, of at most 16777216 bytes."
    ∷ codes "Refuses   with status 2 a RUN that is no JSON of a run."
    ∷ codes "Example   sapic from-json answer.json"
    ∷ codes "          where sapic to-json examples/runs/answer.prun wrote the JSON"
    ∷ codes "Pages     docs/runs.md"
    ∷ [])

-- the page of `sample`
abbrev pub sample_page : List ℕ
sample_page =
    lines_text
    (codes "sapic sample N"
    ∷ []
    ∷ codes "Writes    of a run of N sessions of a small protocol how many steps it has, how"
    ∷ codes "          many the run of the rules opposite to it, how many that one converted"
    ∷ codes "          back, and at how many times it shows something."
    ∷ codes "Reads     nothing; N is a number from 1 to 500, in decimal."
    ∷ codes "Refuses   nothing; with another N the words are none, which is status 3."
    ∷ codes "Example   sapic sample 20"
    ∷ codes "Pages     docs/statement.md"
    ∷ [])

-- the page of `help`
abbrev pub help_page : List ℕ
help_page =
    lines_text
    (codes "sapic help"
    ∷ codes "sapic help COMMAND"
    ∷ []
    ∷ codes "Writes    the commands with a line each, and the statuses; or the page of"
    ∷ codes "          COMMAND: what it writes, reads and refuses, and an example."
    ∷ codes "Reads     nothing."
    ∷ codes "Refuses   nothing; with another COMMAND the words are none, which is status 3."
    ∷ codes "Example   sapic help compile"
    ∷ codes "Pages     docs/README.md"
    ∷ [])
