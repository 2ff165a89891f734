-- What a network that is run tells of a transaction, by where it is noted.
use Rattle.std.proofs.Common.{◌≡◌, ◌<◌, ◌≤◌, ◌-◌, ℕ, Option, Some, IfSome, ap, arith, get_or, length, refl, subst, sym, ◌∙◌}
use Rattle.std.specs.Prelude.{slice_get}
use Rattle.elaborate.specs.Plan.{first_part}
use Rattle.manager_node.specs.Answer.{AnswerView}
use Rattle.net_build.proofs.AnswerLemmas.{known-answer, node-within, note-there, noted-there, notes-long, place-there}
use Rattle.net_build.proofs.StandLemmas.{node-stands, nodes-count}
use Rattle.net_build.specs.NetInside.{IsRun, net_run}
use Rattle.net_build.specs.NetRun.{network_of_run}
use Rattle.net_build.specs.Noted.{HasPlace, IsAnswerTo, answer_by, answer_of_number, manager_of_place}
use Rattle.net_build.specs.Notes.{note_of}
use Rattle.net_build.specs.declared.net.Net.TheInside.{Inside}
use Rattle.net_build.specs.declared.notes.Note.{Note}
use Rattle.net_kinds.specs.NodeKind.{node_view}
use Rattle.net_kinds.specs.declared.node.Node.{Node}

module _ (n : Inside) (is : IsRun n) (number : ℕ) (first : 1 ≤ number) (last : number ≤ length n.traffic) where
  less : number - 1 < length n.traffic
  less = omega (arith, first, last)

  pub note-inside : number - 1 < length n.notes.items
  note-inside = omega (arith, less, notes-long n.plan n.traffic n.notes.items is.notes)

  module _ (note : Note) (read : note ≡ get_or n.notes.items (number - 1) note) where
    note-is : note ≡ note_of n.plan n.traffic (number - 1)
    note-is = note-there n.plan n.traffic n.notes.items (number - 1) note is.notes less read

    pub node-inside : note.node < length n.net.nodes
    node-inside =
        let within = node-within (net_run n) is.traffic is.sound (number - 1) less in
        omega (arith, within, nodes-count n.plan n.traffic n.net is.stands_at, ap (λ (x : Note). x.node) note-is)

    module _ (node : Node) (there : slice_get n.net.nodes note.node ≡ Some node) where
      stands : slice_get (network_of_run (net_run n)).nodes (first_part n.plan (manager_of_place n.traffic (number - 1))) ≡ Some (node_view node)
      stands =
          node-stands n.plan n.traffic n.net is.stands_at (first_part n.plan (manager_of_place n.traffic (number - 1))) node
          (ap (λ (x : Note). slice_get n.net.nodes x.node) (sym note-is) ∙ there)

      pub place-inside : HasPlace (node_view node).state.kind (node_view node).state.state note.place
      place-inside =
          subst (λ (x : Note). HasPlace (node_view node).state.kind (node_view node).state.state x.place) (sym note-is)
          (place-there (net_run n) is.traffic is.sound (number - 1) less (node_view node) stands)

      pub answer-is : answer_by (node_view node).state.kind (node_view node).state.state note.place ≡ answer_of_number (net_run n) number
      answer-is =
          ap (λ (x : Note). answer_by (node_view node).state.kind (node_view node).state.state x.place) note-is
          ∙ noted-there (net_run n) is.traffic is.sound (number - 1) less (node_view node) stands

  pub answer-known : (o : Option AnswerView) → o ≡ answer_of_number (net_run n) number → IfSome o (IsAnswerTo (net_run n) number)
  answer-known o same = known-answer (net_run n) is.traffic is.sound (number - 1) less number refl o same
