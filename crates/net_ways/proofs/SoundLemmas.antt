-- What holds of networks that can be run, by what holds of networks that are wired and scheduled.
use Rattle.std.proofs.Common.{◌≡◌, ◌<◌, ℕ, Bool, true, false, List, length, map, Option, Some, None, refl, ◌∙◌, ap, subst, inl, inr, arith}
use Rattle.std.specs.List.{AllZip}
use Rattle.std.specs.Prelude.{◌⊎◌, All, Contains, find, unwrap_or}
use Rattle.std.proofs.lemmas.List.Elements.{All-nil}
use Rattle.axi_beats.specs.declared.beat.Addr.{Addr}
use Rattle.axi_trail.specs.Schedule.{Share, no_share}
use Rattle.burst_address.specs.Legal.{IsLegal}
use Rattle.link_ports.specs.WordSchedule.{IsOneWord, IsWordSchedule}
use Rattle.net_model.specs.Network.{Network, net_link}
use Rattle.net_progress.proofs.BoundFacts.{finishes-in_time}
use Rattle.net_progress.proofs.StuckFacts.{never-stuck}
use Rattle.net_progress.specs.Transfers.{link_beats, share_beats}
use Rattle.net_runs.proofs.ContractFacts.{runs-go_on, runs-keep}
use Rattle.net_runs.proofs.PortFacts.{ports-are_legal}
use Rattle.net_ways.proofs.KnownLemmas.{is-scheduled}
use Rattle.net_ways.proofs.OriginLemmas.{its-way, not-carried}
use Rattle.net_ways.proofs.WayLemmas.{is-carried}
use Rattle.net_ways.specs.Known.{known_by_nodes}
use Rattle.net_ways.specs.Sound.{IsSound}
use Rattle.net_ways.specs.SoundLaws.{SoundFinishesInTime, SoundNeverStuck, SoundPortsAreLegal, SoundRunsGoOn, SoundRunsKeep}
use Rattle.net_ways.specs.Ways.{carried, is_origin, origins_in, schedules_of}
use Rattle.node_shape.specs.Kind.{Kind}
use Rattle.node_shape.specs.KindHolds.{KindHolds}
use Rattle.node_shape.specs.LegalSchedule.{IsDataOf, IsLegalSchedule}
use Rattle.node_shape.specs.LinkForm.{IsWordForm, LinkForm}
use Rattle.node_shape.specs.Way.{Origin}
use Rattle.plain_lists.proofs.CutLemmas.{contains-map}
use Rattle.plain_lists.proofs.PlaceLemmas.{contains-at, find-has}

module _ {S E : Type 0} (kind : Kind S E) (holds : KindHolds kind) where
  pub sound-runs_keep : SoundRunsKeep kind
  sound-runs_keep net forms sound n =
      runs-keep kind holds net (schedules_of kind net forms) (known_by_nodes kind net (schedules_of kind net forms)) sound.wired (is-scheduled kind holds net forms sound) n

  pub sound-runs_go_on : SoundRunsGoOn kind
  sound-runs_go_on net forms sound n =
      runs-go_on kind holds net (schedules_of kind net forms) (known_by_nodes kind net (schedules_of kind net forms)) sound.wired (is-scheduled kind holds net forms sound) n

  pub sound-never_stuck : SoundNeverStuck kind
  sound-never_stuck net forms sound most patient n unfinished =
      never-stuck kind holds net (schedules_of kind net forms) (known_by_nodes kind net (schedules_of kind net forms)) sound.wired (is-scheduled kind holds net forms sound) most patient n unfinished

  module _ (net : Network S) (forms : ℕ → LinkForm) (sound : IsSound kind net forms) where
    -- what a link carries is legal, and so is nothing
    legal-share : (bus : ℕ) (write : Bool) (link number : ℕ) → (forms link).bus ≡ bus → (o : Option Share) → carried kind net write link number ≡ o →
        All (λ (part : Addr). IsLegal part bus) (unwrap_or o no_share).parts
    legal-share bus write link number same None is = All-nil (λ (part : Addr). IsLegal part bus)
    legal-share bus write link number same (Some share) is = subst (λ (b : ℕ). All (λ (part : Addr). IsLegal part b) share.parts) same (is-carried kind holds net forms sound write number link share is).fits.legal

    legal-data : (bus link number : ℕ) → (forms link).bus ≡ bus → (o : Option Share) → carried kind net true link number ≡ o →
        AllZip (IsDataOf bus) (unwrap_or o no_share).parts (unwrap_or o no_share).write_data
    legal-data bus link number same None is = tt
    legal-data bus link number same (Some share) is =
        subst (λ (b : ℕ). AllZip (IsDataOf b) share.parts share.write_data) same ((is-carried kind holds net forms sound true number link share is).fits.write_data refl)

    legal-schedule : (link : ℕ) → link < length net.links → IsLegalSchedule (net_link net.links link).bus (schedules_of kind net forms link)
    legal-schedule link known =
        let same = (sound.formed link known).bus in
        let bus = (net_link net.links link).bus in
        record {
          writes = λ t. legal-share bus true link t same (carried kind net true link t) refl;
          reads = λ t. legal-share bus false link t same (carried kind net false link t) refl;
          write_data = λ t. legal-data bus link t same (carried kind net true link t) refl;
        }

    -- on AXI4-Lite it is words
    word-share : (bus : ℕ) (write : Bool) (link number : ℕ) → (forms link).bus ≡ bus → (forms link).lite ≡ true → (forms link).single ≡ true → (o : Option Share) →
        carried kind net write link number ≡ o → All (IsOneWord bus) (unwrap_or o no_share).parts
    word-share bus write link number same lite single None is = All-nil (IsOneWord bus)
    word-share bus write link number same lite single (Some share) is =
        let fits = (is-carried kind holds net forms sound write number link share is).fits in
        λ k past within. record { single = fits.single single k past within; whole = (fits.words lite k past within).size ∙ same }

    word-schedule : (link : ℕ) → link < length net.links → (forms link).lite ≡ true → IsWordForm (forms link) → IsWordSchedule (net_link net.links link).bus (schedules_of kind net forms link)
    word-schedule link known lite form =
        let same = (sound.formed link known).bus in
        let bus = (net_link net.links link).bus in
        record {
          no_ids = form.no_ids;
          writes = λ t. word-share bus true link t same lite form.single (carried kind net true link t) refl;
          reads = λ t. word-share bus false link t same lite form.single (carried kind net false link t) refl;
        }

    -- a link carries the transactions that start somewhere, and no others
    abbrev numbers : List ℕ
    numbers = map (λ (origin : Origin). origin.number) (origins_in kind net.nodes)

    nothing-else : (write : Bool) (link t : ℕ) → Contains numbers t ⊎ (share_beats (unwrap_or (carried kind net write link t) no_share) ≡ 0)
    nothing-else write link t = go (find (is_origin write t) (origins_in kind net.nodes)) refl
      where
        go : (o : Option Origin) → find (is_origin write t) (origins_in kind net.nodes) ≡ o → Contains numbers t ⊎ (share_beats (unwrap_or (carried kind net write link t) no_share) ≡ 0)
        go None none = inr (ap (λ (o : Option Share). share_beats (unwrap_or o no_share)) (not-carried kind holds net forms sound write t link none))
        go (Some origin) found =
            let has = find-has (is_origin write t) (origins_in kind net.nodes) origin found in
            inl (subst (λ (k : ℕ). Contains numbers k) (its-way kind holds net forms sound write t origin found).same_number
            (contains-map (λ (o : Origin). o.number) (origins_in kind net.nodes) origin (contains-at (origins_in kind net.nodes) has.1 origin has.2)))

    carries-only : (link : ℕ) → link < length net.links → (t : ℕ) → Contains numbers t ⊎ (link_beats (schedules_of kind net forms link) t ≡ 0)
    carries-only link known t = elim (nothing-else true link t) [
      | inl among ↦ inl among
      | inr no_writes ↦ elim (nothing-else false link t) [
        | inl among ↦ inl among
        | inr no_reads ↦ inr (omega (arith, no_writes, no_reads))
      ]
    ]

  pub sound-ports_are_legal : SoundPortsAreLegal kind
  sound-ports_are_legal net forms sound link known words rounds =
      ports-are_legal kind holds net (schedules_of kind net forms) (known_by_nodes kind net (schedules_of kind net forms)) sound.wired (is-scheduled kind holds net forms sound) link known
      (legal-schedule net forms sound link known)
      (λ lite. let is = (sound.formed link known).lite ∙ lite in word-schedule net forms sound link known is (words is)) rounds

  pub sound-finishes_in_time : SoundFinishesInTime kind
  sound-finishes_in_time net forms sound most patient =
      finishes-in_time kind holds net (schedules_of kind net forms) (known_by_nodes kind net (schedules_of kind net forms)) sound.wired (is-scheduled kind holds net forms sound)
      (numbers net forms sound) (carries-only net forms sound) most patient
