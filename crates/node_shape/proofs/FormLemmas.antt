-- What goes on as it is fits a link of the same form.
use Rattle.std.proofs.Common.{◌≡◌, ◌∙◌, ℕ, List, Bool, sym, ap, subst, refl}
use Rattle.std.specs.Prelude.{flat_map}
use Rattle.axi_beats.specs.declared.beat.Addr.{Addr}
use Rattle.axi_trail.specs.Schedule.{Share}
use Rattle.node_shape.specs.LinkForm.{FitsLink, IsAlike, LinkForm, parts_written, wanted_bytes}
use Rattle.node_shape.specs.Way.{onto}
use Rattle.node_shape.specs.WaysAround.{IsCarried}

-- a form by its parts
abbrev form_of : ℕ → LinkForm → LinkForm
form_of width form = record { lite = form.lite; bus = form.bus; id_width = width; single = form.single }

module _ (form other : LinkForm) (alike : IsAlike form other) where
  same-form : form_of 0 form ≡ form_of 0 other
  same-form =
      ap (λ (b : Bool). record { lite = b; bus = form.bus; id_width = 0; single = form.single }) (sym alike.lite)
      ∙ ap (λ (n : ℕ). record { lite = other.lite; bus = n; id_width = 0; single = form.single }) (sym alike.bus)
      ∙ ap (λ (b : Bool). record { lite = other.lite; bus = other.bus; id_width = 0; single = b }) (sym alike.single)

  pub fits-alike : (write : Bool) (share : Share) → FitsLink form write share → FitsLink other write share
  fits-alike write share fits =
      let plain : FitsLink (form_of 0 form) write share = record {
        width = fits.width;
        legal = fits.legal;
        small = fits.small;
        single = fits.single;
        words = fits.words;
        write_data = fits.write_data;
        strobes = fits.strobes;
        no_data = fits.no_data;
        lanes = fits.lanes;
      } in
      let moved : FitsLink (form_of 0 other) write share = subst (λ (f : LinkForm). FitsLink f write share) same-form plain in
      record {
        width = moved.width;
        legal = moved.legal;
        small = moved.small;
        single = moved.single;
        words = moved.words;
        write_data = moved.write_data;
        strobes = moved.strobes;
        no_data = moved.no_data;
        lanes = moved.lanes;
      }

  -- the same bytes are wanted
  pub bytes-alike : (parts : List Addr) → flat_map (wanted_bytes other) parts ≡ flat_map (wanted_bytes form) parts
  bytes-alike parts = ap (λ (f : LinkForm). flat_map (wanted_bytes f) parts) (sym same-form)

  -- and the same written
  pub written-alike : (share : Share) → parts_written other share ≡ parts_written form share
  written-alike share = ap (λ (f : LinkForm). parts_written f share) (sym same-form)

  -- and it is carried by the next link
  pub carried-alike : (write : Bool) (link next : ℕ) (share : Share) → IsCarried form write link share → IsCarried other write next (onto next share)
  carried-alike write link next share is =
      let fits = fits-alike write share is.fits in
      record {
        fits = record {
          width = fits.width;
          legal = fits.legal;
          small = fits.small;
          single = fits.single;
          words = fits.words;
          write_data = fits.write_data;
          strobes = fits.strobes;
          no_data = fits.no_data;
          lanes = fits.lanes;
        };
        page = is.page;
        in_page = is.in_page;
        before = share.chain;
        chain = refl;
      }
