-- The nodes of a topology's text, or why the text is refused.
use Rattle.std.specs.Prelude.{◌≡◌, ⊤, ℕ, List, Option, Some, None, Result, Ok, Err}
use Rattle.refusals.specs.Refusal.{refused_at, refused_for}
use Rattle.refusals.specs.declared.cause.Cause.TheVariants.{BadKey, TomlRefused}
use Rattle.refusals.specs.declared.refusal.DocFault.{DocFault}
use Rattle.refusals.specs.declared.refusal.DocFault.TheVariants.{NoMemory, Refused}
use Rattle.refusals.specs.declared.refusal.Refusal.{Refusal}
use Rattle.toml.specs.Data.{Members}
use Rattle.toml.specs.Parse.{parse_document}
use Rattle.topology_text.specs.Document.{DocumentNode}
use Rattle.topology_text.specs.Shape.{document_in}

-- a table that isn't of its shape is refused by its number
abbrev pub or_bad_key : Result (List DocumentNode) ℕ → Result (List DocumentNode) Refusal
or_bad_key (Ok nodes) = Ok nodes
or_bad_key (Err number) = Err (refused_at BadKey number)

abbrev pub nodes_in : Option Members → Result (List DocumentNode) Refusal
nodes_in None = Err (refused_for TomlRefused)
nodes_in (Some members) = or_bad_key (document_in members)

abbrev pub nodes_of_text : List ℕ → Result (List DocumentNode) Refusal
nodes_of_text text = nodes_in (parse_document text)

-- why a topology isn't read: it is refused so, or memory was wanting, which says nothing of the text
abbrev pub IsTopologyFault : Result (List DocumentNode) Refusal → DocFault → Type 0
IsTopologyFault read (Refused refusal) = read ≡ Err refusal
IsTopologyFault read NoMemory = ⊤
