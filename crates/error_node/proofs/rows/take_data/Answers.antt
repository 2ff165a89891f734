use Rattle.std.proofs.Common.{◌≡◌, ◌∙◌, ℕ, Option, Some, None, refl, sym, ap, lit<}
use Rattle.std.specs.Prelude.{is_some, slice_set}
use Rattle.std.specs.Option.{option_map}
use Rattle.std.proofs.lemmas.Option.{slice_get-map, slice_get_within}
use Rattle.error_node.specs.ErrorTable.{error_service}
use Rattle.subordinate.specs.SubordinateTable.{oldest_lacking}
use Rattle.subordinate.specs.declared.entry.WriteEntry.{WriteEntry}
use Rattle.subordinate.proofs.EntryLemmas.{IsOldestLacking, oldest_lacking-at, with_data-none}
use Rattle.error_node.proofs.rows.take_data.Goals as goal

none-of : (o : Option ℕ) (p : Option WriteEntry) → is_some o ≡ is_some p → o ≡ None → p ≡ None
none-of None None same none = refl
none-of None (Some e) same none = absurd (cc)
none-of (Some k) p same none = absurd (cc)

pub returns-in_default : goal.returns-in_default
returns-in_default c =
    sym (with_data-none error_service c.args._beat.now c.args.entries.now (none-of c.lacking.result (oldest_lacking c.args.entries.now) c.lacking.ensures.some c.in_default.is))

pub with_status-requires : goal.with_status-requires
with_status-requires c = (oldest_lacking-at error_service c.args.entries.now c.in-Some.place c.get-entry.result.now (sym c.lacking.ensures.place ∙ c.in-Some.is) c.get-entry.ensures).lacks

pub set-requires : goal.set-requires
set-requires c =
    let key_of : WriteEntry → ℕ = λ entry. entry.request.id in (
      lit< tt,
      (
        slice_get_within c.args.entries.now c.in-Some.place c.get-entry.result.now c.get-entry.ensures,
        slice_get-map key_of c.args.entries.now c.in-Some.place
            ∙ ap (option_map key_of) c.get-entry.ensures
            ∙ sym (ap (λ (entry : WriteEntry). Some entry.request.id) c.with_status.ensures),
      ),
    )

pub returns : goal.returns
returns c =
    let oldest : IsOldestLacking error_service c.args.entries.now c.in-Some.place c.get-entry.result.now =
    oldest_lacking-at error_service c.args.entries.now c.in-Some.place c.get-entry.result.now (sym c.lacking.ensures.place ∙ c.in-Some.is) c.get-entry.ensures in
    c.set.ensures.entry ∙ ap (slice_set c.args.entries.now c.in-Some.place) c.with_status.ensures ∙ sym (oldest.taken c.args._beat.now)
