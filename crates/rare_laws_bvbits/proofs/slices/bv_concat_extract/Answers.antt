use Rattle.rare_laws_bvbits.proofs.BvSliceForms.{bv_concat_extract_form}
use Rattle.rare_laws_bvbits.proofs.slices.bv_concat_extract.Goals as goal

pub typed-requires-clause-form : goal.typed-requires-clause-form
typed-requires-clause-form c = bv_concat_extract_form
