-- How one kind of fault becomes another.
use Rattle.ports.specs.declared.fault.PortFault.{PortFault}
use Rattle.ports.specs.declared.fault.PortFault.TheVariants as port
use Rattle.ports.specs.declared.fault.ReadFault.{ReadFault}
use Rattle.ports.specs.declared.fault.ReadFault.TheVariants as reading

-- what a fault of one read says of the reading of a whole file
abbrev pub read_fault_of : PortFault → ReadFault
read_fault_of port.Failed = reading.Failed
read_fault_of port.Memory = reading.Memory
