-- The command line of the program, as it is described to clap. Read it from the end: `editlens_app`.
use Rattle.std.specs.Prelude.{List, ℕ, codes, true}
use Rattle.clap.specs.Walk.{Rule}
use Rattle.clap.specs.Simple.{App, new_app, new_rule, on_top, with_rule, with_subcommand}

-- a required argument with no flag
abbrev pub required_word : List ℕ → Rule
required_word name = record (new_rule name) { required = true }

-- `gen`, which has two arguments
abbrev pub gen_app : App
gen_app = with_rule (with_rule (new_app (codes "gen")) (required_word (codes "count"))) (required_word (codes "seed"))

-- `undo`, which has one
abbrev pub undo_app : App
undo_app = with_rule (new_app (codes "undo")) (required_word (codes "count"))

-- no help flag, no help command, and a subcommand is required
abbrev pub top_app : App
top_app =
    on_top (λ s. record s { subcommand_required = true }) (on_top (λ s. record s { disable_help_subcommand = true })
    (on_top (λ s. record s { disable_help_flag = true }) (new_app (codes "editlens"))))

-- a command line with this command of one word besides
abbrev pub with_plain : App → List ℕ → App
with_plain app name = with_subcommand app (new_app name).top

-- the commands that read a script alone
abbrev pub script_apps : App
script_apps =
    with_plain (with_plain (with_plain (with_plain top_app (codes "run")) (codes "check")) (codes "hub")) (codes "link")

-- these and the commands of one word over a store
abbrev pub store_apps : App
store_apps =
    with_plain
    (with_plain
    (with_plain (with_plain (with_plain (with_plain script_apps (codes "init")) (codes "apply")) (codes "show"))
    (codes "verify")) (codes "pack")) (codes "import")

-- the whole command line
abbrev pub editlens_app : App
editlens_app = with_subcommand (with_subcommand store_apps gen_app.top) undo_app.top
