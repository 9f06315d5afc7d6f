-- How the faults of the layers below are handed on, and the status of each refusal.
use Rattle.ports.specs.declared.fault.ReadFault.{ReadFault}
use Rattle.ports.specs.declared.fault.ReadFault.TheVariants as reading
use Rattle.hll_cli.specs.declared.answer.Status.{Status}
use Rattle.hll_cli.specs.declared.answer.Status.TheVariants as status
use Rattle.hll_cli.specs.declared.fault.Fault.{Fault}
use Rattle.hll_cli.specs.declared.fault.Fault.TheVariants.{Refused, Memory}
use Rattle.hll_cli.specs.declared.fault.Refusal.{Refusal}
use Rattle.hll_cli.specs.declared.fault.Refusal.TheVariants.{Unread, Long, Misplaced, Unbuilt}

-- a file that isn't read whole
abbrev pub fault_of_read : ReadFault → Fault
fault_of_read reading.Failed = Refused Unread
fault_of_read reading.Long = Refused Long
fault_of_read reading.Memory = Memory

-- the status with which a refusal is printed
abbrev pub status_of : Refusal → Status
status_of Unread = status.ReadFault
status_of Long = status.Refused
status_of (Misplaced mistake place) = status.Refused
status_of Unbuilt = status.Refused
