use Rattle.std.proofs.Common.{◌≡◌, ◌∙◌, ◌+◌, ◌*◌, ap, sym, subst, arith, length, ⊎_elim, inl, inr}
use Rattle.std.specs.Prelude.{slice_range}
use Rattle.std.proofs.lemmas.Bool.{cases_order}
use Rattle.std.proofs.lemmas.List.{with_items_is}
use Rattle.a2_image.specs.Blocks.{blocks, bytes_of_block}
use Rattle.a2_image.specs.Kept.{IsKept, kept_bytes}
use Rattle.a2_image.proofs.ImageLemmas.{stored_length, stored_prodos, blocks_inside, kept_image, kept-plain_written, IsKept-stored, blocks-stored}
use Rattle.a2_image.proofs.image.Image.write_stored.Goals as goal

pub replace-requires : goal.replace-requires
replace-requires g c =
    let long = ap length c.as_mut_slice.ensures.value
    ∙ stored_length c.args.self.now c.self.inside.order c.self.inside.bytes.items c.self.inside.fields.items c.self.view_is c.self.invariant c.requires.other_size in
    omega (arith, long, c.told-block, c.requires.number)

pub invariant_of-self : goal.invariant_of-self
invariant_of-self g c =
    let same : length c.replace.new.bytes ≡ length c.self.inside.bytes.items = c.replace.auto.bytes ∙ ap length c.as_mut_slice.ensures.value in
    let stands = with_items_is c.self.inside.bytes c.replace.new.bytes (same ∙ sym c.self.inside.bytes.ok.0) in
    subst (λ bytes. IsKept c.self.inside.order bytes c.self.inside.fields.items) (sym stands)
    (IsKept-stored c.self.inside.order c.self.inside.bytes.items c.self.inside.fields.items c.replace.new.bytes c.self.invariant
    (λ e. c.requires.other_size (blocks_inside c.args.self.now c.self.inside.order c.self.inside.bytes.items c.self.inside.fields.items c.self.view_is c.self.invariant ∙ e)) same)

pub returns-clause-written : goal.returns-clause-written
returns-clause-written g c =
    let same : length c.replace.new.bytes ≡ length c.self.inside.bytes.items = c.replace.auto.bytes ∙ ap length c.as_mut_slice.ensures.value in
    let stands = with_items_is c.self.inside.bytes c.replace.new.bytes (same ∙ sym c.self.inside.bytes.ok.0) in
    let size : 512 * c.args.number + 512 ≡ 512 * c.args.number + length c.args.block.now = omega (arith, c.told-block) in
    ap (λ bytes. blocks (kept_image c.self.inside.order bytes c.self.inside.fields.items)) stands
    ∙ blocks-stored c.args.self.now c.self.inside.order c.self.inside.bytes.items c.self.inside.fields.items c.self.view_is c.replace.new.bytes c.args.number c.args.block.now
    c.requires.other_size c.requires.number same
    (ap (slice_range c.replace.new.bytes (512 * c.args.number)) size ∙ c.replace.ensures.written)
    (λ k differ. c.replace.ensures.others (512 * k) (512 * k + 512) (omega arith)
    (⊎_elim
    (λ e. absurd (differ e))
    (λ apart. ⊎_elim (λ less. inl (omega (arith, less))) (λ more. inr (omega (arith, more, c.told-block))) apart)
    (cases_order k c.args.number))
    ∙ ap (λ bytes. bytes_of_block bytes k) c.as_mut_slice.ensures.value)

pub returns-clause-kept : goal.returns-clause-kept
returns-clause-kept g c =
    let same : length c.replace.new.bytes ≡ length c.self.inside.bytes.items = c.replace.auto.bytes ∙ ap length c.as_mut_slice.ensures.value in
    let stands = with_items_is c.self.inside.bytes c.replace.new.bytes (same ∙ sym c.self.inside.bytes.ok.0) in
    let prodos = stored_prodos c.args.self.now c.self.inside.order c.self.inside.bytes.items c.self.inside.fields.items c.self.view_is c.self.invariant c.requires.other_size in
    ap (λ bytes. kept_bytes c.self.inside.order bytes c.self.inside.fields.items) stands
    ∙ kept-plain_written c.args.self.now c.self.inside.order c.self.inside.bytes.items c.self.inside.fields.items c.self.view_is
    (λ e. let never = sym prodos ∙ e in cc) c.replace.new.bytes same
