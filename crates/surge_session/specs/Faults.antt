-- Why the execution of a statement ended.
use Rattle.surge_outside.specs.declared.trouble.Trouble.{Trouble}
use Rattle.surge_outside.specs.declared.trouble.Trouble.TheVariants as trouble
use Rattle.surge_session.specs.declared.session.SessionFault.{SessionFault}
use Rattle.surge_session.specs.declared.session.SessionFault.TheVariants as fault

abbrev pub fault_of : Trouble → SessionFault
fault_of trouble.Failed = fault.WriteFault
fault_of trouble.NoMemory = fault.NoMemory
