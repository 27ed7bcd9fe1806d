-- Every definition of a step, opened by one name: `unfolding step_opens` in a proof that computes a step.
use Rattle.std.specs.Prelude.{ℕ}
use Rattle.arm7_model.specs.Accesses.{read_at, answers_after, after_fetch, after_load, memory_after, after_store}
use Rattle.arm7_model.specs.Arithmetic.{with_flags, passes, shifted_by_register, shifted_by_amount, immediate_operand, sum_with, computed}
use Rattle.arm7_model.specs.ArmStep.{arm_condition, shifted_operand, register_shifted_operand, half_offset, bad_return, bad_status, bad_write, bad_base, bad_offset, bad_pc, transfer_at, bad_half, bad_block_base, bad_user, arm_unpredictable, arm_effect, arm_done}
use Rattle.arm7_model.specs.Blocks.{block_start, block_end, with_listed, listed_at, with_loaded_pc, take_end, block_loaded, block_stored, block_moved}
use Rattle.arm7_model.specs.Branches.{status_with_thumb, exchanged, branch_target, branched, linked_first, linked_second, is_host, interrupted}
use Rattle.arm7_model.specs.Data.{flagged, completed, calculated, multiplied, long_product, multiplied_long, status_with, status_fields, status_after, read_status, written_status}
use Rattle.arm7_model.specs.Memory.{in_memory, is_there, may_store}
use Rattle.arm7_model.specs.Outcomes.{entered, ran, took, raised, aborted, hosted, given_back}
use Rattle.arm7_model.specs.Registers.{mode_named, mode_in, has_mode, is_thumb, is_user, bank_in, has_saved, register, with_register, as_pc, with_pc, with_result, operand_at, stored_at, with_other_high, with_high, with_pair, with_cpsr, saved, with_saved, restored, user_register, with_user_register}
use Rattle.arm7_model.specs.Step.{irq_pending, interrupt, can_fetch, fetches, fetched, advanced, done, executed, misaligned, fetch_aborted, uninterrupted, stepped}
use Rattle.arm7_model.specs.ThumbStep.{plain_operand, pc_base, immediate_done, combined, shifted_register, register_done, high_done, address_loaded, stack_adjusted, bad_high, is_misaligned, bad_place, thumb_unpredictable, thumb_transfer, thumb_branched, thumb_effect, thumb_done}
use Rattle.arm7_model.specs.Transfers.{moved_by, transfer_address, writes_back, with_base, loaded_value, load_end, loaded, stored, transferred, swapped}

unfoldable pub step_opens : ℕ
unfolding read_at answers_after after_fetch after_load memory_after after_store with_flags passes shifted_by_register shifted_by_amount immediate_operand sum_with computed arm_condition shifted_operand register_shifted_operand half_offset bad_return bad_status bad_write bad_base bad_offset bad_pc transfer_at bad_half bad_block_base bad_user arm_unpredictable arm_effect arm_done block_start block_end with_listed listed_at with_loaded_pc take_end block_loaded block_stored block_moved status_with_thumb exchanged branch_target branched linked_first linked_second is_host interrupted flagged completed calculated multiplied long_product multiplied_long status_with status_fields status_after read_status written_status in_memory is_there may_store entered ran took raised aborted hosted given_back mode_named mode_in has_mode is_thumb is_user bank_in has_saved register with_register as_pc with_pc with_result operand_at stored_at with_other_high with_high with_pair with_cpsr saved with_saved restored user_register with_user_register irq_pending interrupt can_fetch fetches fetched advanced done executed misaligned fetch_aborted uninterrupted stepped plain_operand pc_base immediate_done combined shifted_register register_done high_done address_loaded stack_adjusted bad_high is_misaligned bad_place thumb_unpredictable thumb_transfer thumb_branched thumb_effect thumb_done moved_by transfer_address writes_back with_base loaded_value load_end loaded stored transferred swapped
step_opens = 0

-- The same without loads and stores, which lemmas rewrite as a whole.
unfoldable pub row_opens : ℕ
unfolding after_fetch with_flags passes shifted_by_register shifted_by_amount immediate_operand sum_with computed arm_condition shifted_operand register_shifted_operand half_offset bad_return bad_status bad_write bad_base bad_offset bad_pc transfer_at bad_half bad_block_base bad_user arm_unpredictable arm_effect arm_done block_start block_end with_loaded_pc block_moved status_with_thumb exchanged branch_target branched linked_first linked_second is_host interrupted flagged completed calculated multiplied long_product multiplied_long status_with status_fields status_after read_status written_status entered ran took raised aborted hosted given_back mode_named mode_in has_mode is_thumb is_user bank_in has_saved register with_register as_pc with_pc with_result operand_at stored_at with_other_high with_high with_pair with_cpsr saved with_saved restored user_register with_user_register irq_pending interrupt can_fetch fetches fetched advanced done executed misaligned fetch_aborted uninterrupted stepped plain_operand pc_base immediate_done combined shifted_register register_done high_done address_loaded stack_adjusted bad_high is_misaligned bad_place thumb_unpredictable thumb_transfer thumb_branched thumb_effect thumb_done moved_by transfer_address writes_back with_base transferred swapped
row_opens = 0
